use Rattle.std.proofs.Common.{◌≡◌, take}
use Rattle.std.specs.List.{fold}
use Rattle.soda_model.specs.Buyers.{answer}
use Rattle.soda_model.proofs.buyer.answer_all.Given as goal

abbrev pub invariant-loop-letter : goal.invariant-loop-letter
invariant-loop-letter l = l.buyer ≡ fold answer l.fn.buyer (take l.letter-index l.inbox)
