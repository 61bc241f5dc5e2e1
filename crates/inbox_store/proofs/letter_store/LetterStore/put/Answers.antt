use Rattle.inbox_store.proofs.Views.{put_list, put_others}
use Rattle.inbox_store.proofs.letter_store.LetterStore.put.Goals as goal

pub returns-clause-list : goal.returns-clause-list
returns-clause-list c = rw (← c.self.view_is) (put_list _ _ _ _ _ _ c.move_front.ensures)

pub returns-clause-others : goal.returns-clause-others
returns-clause-others c = λ other differs. rw (← c.self.view_is) (put_others _ _ _ _ _ other _ c.move_front.ensures differs)
