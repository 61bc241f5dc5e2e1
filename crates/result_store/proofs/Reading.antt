-- What was read so far, followed by the rest.
use Rattle.std.proofs.Common.{ℕ, List, ◌++◌, Result, Ok, Err}
use Rattle.result_store.specs.RuleParts.{RuleParts}

abbrev pub after : List RuleParts → Result (List RuleParts) ℕ → Result (List RuleParts) ℕ
after done (Ok rules) = Ok (done ++ rules)
after done (Err n) = Err n
