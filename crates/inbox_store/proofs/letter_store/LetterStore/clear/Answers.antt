use Rattle.std.proofs.Common.{◌+◌, reverse, ap, ◌∙◌, arith}
use Rattle.inbox_store.proofs.Clearing.{cleared_spare}
use Rattle.inbox_store.proofs.Views.{list_at}
use Rattle.inbox_store.proofs.letter_store.LetterStore.clear.Goals as goal

pub returns-clause-empty : goal.returns-clause-empty
returns-clause-empty c = λ id. list_at _ _ id ∙ ap reverse (c.empty_all.ensures.emptied (id + 1) (λ same. omega (arith, same)))

pub returns-clause-spare : goal.returns-clause-spare
returns-clause-spare c =
    rw (← c.self.view_is)
    (cleared_spare c.self.inside.nodes.items c.empty_all.new.nodes.items c.self.inside.chains.items c.empty_all.new.chains.items c.self.invariant.0 c.empty_all.ensures.sound c.empty_all.ensures.emptied c.empty_all.ensures.whole)
