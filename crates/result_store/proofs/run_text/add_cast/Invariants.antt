use Rattle.std.proofs.Common.{◌≡◌, ◌++◌, take}
use Rattle.std.specs.List.{flat_map}
use Rattle.result_store.specs.Text.{member_text}
use Rattle.result_store.proofs.run_text.add_cast.Given as goal

abbrev pub invariant-loop-member : goal.invariant-loop-member
invariant-loop-member l = l.text.items ≡ l.fn.text.items ++ flat_map (member_text l.rules l.chains.rows.now) (take l.member-index l.cast)
