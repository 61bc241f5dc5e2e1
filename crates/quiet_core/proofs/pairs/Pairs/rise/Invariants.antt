use Rattle.std.proofs.Common.{◌≡◌, max}
use Rattle.quiet_core.specs.Rows.{blend}
use Rattle.quiet_core.proofs.Blends.{blend_below}
use Rattle.quiet_core.proofs.pairs.Pairs.rise.Given as goal

abbrev pub invariant-loop-m : goal.invariant-loop-m
invariant-loop-m l = l.self-inside.rows ≡ blend_below (blend max) l.m l.initial.self-inside.rows l.other-inside.rows
