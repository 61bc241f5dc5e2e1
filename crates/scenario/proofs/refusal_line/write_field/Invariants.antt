use Rattle.std.proofs.Common.{◌≡◌, length, map, take}
use Rattle.scenario.specs.RefusalLine.{shown}
use Rattle.scenario.proofs.refusal_line.write_field.Given as goal

abbrev pub invariant-loop-at : goal.invariant-loop-at
invariant-loop-at g l = record {
  len : length l.text ≡ 64;
  so_far : take l.at l.text ≡ map shown (take l.at l.bytes);
}
