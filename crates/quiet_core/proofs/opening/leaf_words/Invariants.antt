use Rattle.quiet_core.specs.Opening.{Leafy}
use Rattle.quiet_core.proofs.opening.leaf_words.Given as goal

abbrev pub invariant-loop-m : goal.invariant-loop-m
invariant-loop-m l = Leafy l.frame l.m l.words.items
