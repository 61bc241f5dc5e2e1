use Rattle.inbox_store.proofs.Views.{same_lists}
use Rattle.inbox_store.proofs.letter_store.LetterStore.reserve.Goals as goal

pub returns-clause-lists : goal.returns-clause-lists
returns-clause-lists c = λ id. rw (← c.self.view_is) (same_lists _ _ _ _ c.grow.ensures.others id)
