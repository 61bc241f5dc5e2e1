use Rattle.std.proofs.Common.{◌<◌, ◌≤◌, ◌∙◌, ap, sym, arith, subst, length, get_or-set_same}
use Rattle.quiet_core.specs.Account.{Account, no_actors}
use Rattle.quiet_core.specs.Step.{new_part}
use Rattle.quiet_core.proofs.Books.{hands_book, ledger_book}
use Rattle.quiet_core.proofs.Moves.{split_book}
use Rattle.quiet_core.proofs.accounts.Accounts.split.Goals as goal

pub index_mut-ledger-requires : goal.index_mut-ledger-requires
index_mut-ledger-requires c = let same = hands_book (λ row. row.items) c.self.inside.ledgers.items c.self.inside.numbers.items _ c.self.view_is in let known = c.requires.hand in omega arith

pub index-requires : goal.index-requires
index-requires c = let same = hands_book (λ row. row.items) c.self.inside.ledgers.items c.self.inside.numbers.items _ c.self.view_is in let known = c.requires.hand in omega arith

pub index_mut-requires : goal.index_mut-requires
index_mut-requires c = let same = hands_book (λ row. row.items) c.self.inside.ledgers.items c.self.inside.numbers.items _ c.self.view_is in let known = c.requires.new in omega arith

pub give-requires : goal.give-requires
give-requires c =
    let l = c.index_mut-ledger.result.now in
    let is = ledger_book (λ row. row.items) c.self.inside.ledgers.items c.self.inside.numbers.items c.args.hand l _ c.self.view_is c.requires.hand c.index_mut-ledger.ensures.value in
    subst (λ (a : Account). 1 ≤ a.weight) (sym is) c.requires.weight

pub returns-clause-accounts : goal.returns-clause-accounts
returns-clause-accounts c =
    let h = c.args.hand in
    let ls = c.self.inside.ledgers.items in
    let k = c.give.new.self in
    let same = hands_book (λ row. row.items) ls c.self.inside.numbers.items _ c.self.view_is in
    let known = c.requires.hand in
    let lh : h < length ls = omega arith in
    split_book (λ row. row.items) ls c.self.inside.numbers.items h c.args.new c.requires.apart c.index_mut-ledger.result.now c.part-part.result k
    c.index_mut-ledger.ensures.value c.give.ensures
    (c.part-part.ensures ∙ ap (λ (a : Account). new_part no_actors a) (c.index.ensures ∙ get_or-set_same ls h k c.index.result.now lh))
    _ c.self.view_is c.requires.hand c.requires.new c.requires.empty
