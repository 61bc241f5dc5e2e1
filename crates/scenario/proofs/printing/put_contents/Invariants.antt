use Rattle.std.proofs.Common.{◌≡◌, drop, map}
use Rattle.serde_json.specs.View.{members_view}
use Rattle.scenario.specs.Print.{with_contents}
use Rattle.scenario.specs.Table.{row_of}
use Rattle.scenario.specs.Valid.{names_in}
use Rattle.scenario.proofs.printing.put_contents.Given as goal

abbrev pub invariant-loop-content : goal.invariant-loop-content
invariant-loop-content l = record {
  at : l.at ≡ l.content-index;
  so_far : with_contents (names_in l.starts) (map row_of l.fields) l.contents (members_view l.initial.members.entries)
      ≡ with_contents (names_in l.starts) (map row_of (drop l.at l.fields)) (drop l.at l.contents) (members_view l.members.entries);
}
