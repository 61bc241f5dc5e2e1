use Rattle.quiet_core.proofs.Opens.{opening_balance}
use Rattle.quiescence.proofs.Keeping.{first_hand}
use Rattle.quiescence.proofs.round.Round.over.Goals as goal

pub of_words-requires : goal.of_words-requires
of_words-requires c = rw c.as_slice.ensures.value (opening_balance _ _ c.in_ok-words.ensures)

pub invariant_of-first : goal.invariant_of-first
invariant_of-first c = rw c.in_ok-table.ensures.4 (first_hand c.args.frame c.in_ok-words.words.items c.in_ok-words.ensures c.requires.some_hands)
