use Rattle.std.proofs.Common.{◌∙◌, ap, reverse}
use Rattle.inbox_store.proofs.Views.{list_at, drain_others}
use Rattle.inbox_store.proofs.letter_store.LetterStore.drain_of.Goals as goal

pub returns-then-list-len-clause-emptied : goal.returns-then-list-len-clause-emptied
returns-then-list-len-clause-emptied c = list_at _ _ c.args.to.0 ∙ ap reverse c.drain.ensures.emptied

pub returns-then-list-len-clause-others : goal.returns-then-list-len-clause-others
returns-then-list-len-clause-others c = λ other differs. rw (← c.self.view_is) (drain_others _ _ _ _ c.args.to.0 other c.drain.ensures.others differs)
