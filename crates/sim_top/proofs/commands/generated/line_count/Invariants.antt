use Rattle.std.proofs.Common.{◌≡◌, ◌==◌, ◌≤◌, take}
use Rattle.std.specs.List.{count_by}
use Rattle.sim_top.proofs.commands.generated.line_count.Given as goal

abbrev pub invariant-loop-byte : goal.invariant-loop-byte
invariant-loop-byte l = record {
  counted : l.lines ≡ count_by (λ byte. byte == 10) (take l.byte-index l.text);
  few : l.lines ≤ l.byte-index;
}
