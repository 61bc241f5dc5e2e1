use Rattle.std.proofs.Common.{◌≡◌, ◌+◌, length, take}
use Rattle.sim_model.specs.Cast.{members_from}
use Rattle.selection.specs.Selecting.{Selects}
use Rattle.selection.specs.SelectionParts.{AreWithin}
use Rattle.selection.proofs.selection.Selection.of.Given as goal

abbrev pub invariant-loop-start : goal.invariant-loop-start
invariant-loop-start g l = record {
  long : length l.spans.items ≡ l.start-index + 1;
  within : AreWithin l.spans.items (length l.flags.items);
  selects : Selects l.rules (members_from g.A.Actor.meaning 1 (take l.start-index l.starts)) (record { spans = l.spans.items; flags = l.flags.items });
}
