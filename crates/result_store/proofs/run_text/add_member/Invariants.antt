use Rattle.std.proofs.Common.{◌≡◌, ◌++◌, drop}
use Rattle.result_store.specs.Text.{member_text, series_from}
use Rattle.result_store.proofs.run_text.add_member.Given as goal

abbrev pub invariant-loop-n : goal.invariant-loop-n
invariant-loop-n l = l.text.items ++ series_from l.rules l.chains.rows.now l.member l.n (drop l.n l.member.kind.probes) ≡ l.fn.text.items ++ member_text l.rules l.chains.rows.now l.member
