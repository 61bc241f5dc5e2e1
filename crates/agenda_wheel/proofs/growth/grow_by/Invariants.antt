use Rattle.std.proofs.Common.{◌≡◌, ◌+◌, count_by, vec_len, vec_capacity}
use Rattle.agenda_wheel.specs.Kept.{is_free}
use Rattle.agenda_wheel.specs.Slots.{sorted, Distinct}
use Rattle.agenda_wheel.specs.Wheel.{pairs_of, Sound}
use Rattle.agenda_wheel.proofs.growth.grow_by.Given as goal

abbrev pub invariant-loop-grown : goal.invariant-loop-grown
invariant-loop-grown l = record {
  sound : Sound l.nodes.items l.ticks l.actors;
  apart : Distinct (pairs_of l.nodes.items);
  pairs : sorted (pairs_of l.nodes.items) ≡ sorted (pairs_of l.initial.nodes.items);
  free : count_by is_free (pairs_of l.nodes.items) ≡ count_by is_free (pairs_of l.initial.nodes.items) + l.grown;
  len : vec_len l.nodes ≡ vec_len l.initial.nodes + l.grown;
  capacity : vec_capacity l.nodes ≡ vec_capacity l.initial.nodes;
}
