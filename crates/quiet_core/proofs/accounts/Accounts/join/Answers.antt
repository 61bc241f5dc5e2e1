use Rattle.std.proofs.Common.{◌≡◌, ◌∙◌, ap, sym, subst, arith, map, length, get_or, get_or-set_other}
use Rattle.quiet_core.specs.Account.{Account, account}
use Rattle.quiet_core.specs.Noted.{RoomyBoth}
use Rattle.quiet_core.specs.Entries.{Book, passed}
use Rattle.quiet_core.proofs.Books.{hands_book, ledger_book}
use Rattle.quiet_core.proofs.Passes.{lengths_of, lengths_passed}
use Rattle.quiet_core.proofs.Moves.{join_book}
use Rattle.quiet_core.proofs.accounts.Accounts.join.Goals as goal

pub index_mut-requires : goal.index_mut-requires
index_mut-requires c = let same = hands_book (λ row. row.items) c.self.inside.ledgers.items c.self.inside.numbers.items _ c.self.view_is in let known = c.requires.from in omega arith

pub index_mut-ledger-requires : goal.index_mut-ledger-requires
index_mut-ledger-requires c = let same = hands_book (λ row. row.items) c.self.inside.ledgers.items c.self.inside.numbers.items _ c.self.view_is in let known = c.requires.hand in omega arith

pub unite-requires : goal.unite-requires
unite-requires c =
    let h = c.args.hand in
    let g = c.args.from in
    let ls = c.self.inside.ledgers.items in
    let x = c.index_mut.result.now in
    let y = c.index_mut-ledger.result.now in
    let is_x = ledger_book (λ row. row.items) ls c.self.inside.numbers.items g x _ c.self.view_is c.requires.from c.index_mut.ensures.value in
    let is_y = ledger_book (λ row. row.items) ls c.self.inside.numbers.items h y _ c.self.view_is c.requires.hand
    (c.index_mut-ledger.ensures.value ∙ get_or-set_other ls g h c.replace-gone.new.dest y (λ e. c.requires.apart (sym e))) in
    let r = c.requires.roomy in
    let A : Account = record (account c.args.self.now.accounts h) { marks = y.marks } in
    let C : Account = record (account c.args.self.now.accounts g) { marks = x.marks } in
    let both : RoomyBoth A C = record { weight = r.weight; posted = r.posted; collected = r.collected; acked = r.acked } in
    subst (λ (a : Account). RoomyBoth y a) (sym (c.replace-gone.ensures.value ∙ is_x)) (subst (λ (a : Account). RoomyBoth a C) (sym is_y) both)

pub returns-clause-sched : goal.returns-clause-sched
returns-clause-sched c =
    lengths_of (λ row. row.items) c.pass_all.new.rows.items ∙ ap (map length) c.pass_all.ensures
    ∙ lengths_passed (passed c.args.from c.args.hand) (map (λ row. row.items) c.self.inside.numbers.items) ∙ sym (lengths_of (λ row. row.items) c.self.inside.numbers.items)
    ∙ ap (λ (b : Book). b.sched) c.self.view_is

pub returns-clause-accounts : goal.returns-clause-accounts
returns-clause-accounts c =
    let x = c.index_mut.result.now in
    let is = c.replace-gone.ensures.value in
    join_book (λ row. row.items) c.self.inside.ledgers.items c.self.inside.numbers.items c.args.hand c.args.from c.requires.apart c.pass_all.new.rows.items
    c.replace-gone.result c.index_mut-ledger.result.now c.replace-gone.new.dest c.unite.new.self
    c.pass_all.ensures (subst (λ (a : Account). a ≡ get_or c.self.inside.ledgers.items c.args.from a) (sym is) c.index_mut.ensures.value) c.index_mut-ledger.ensures.value (c.replace-gone.ensures.after ∙ c.new.ensures) c.unite.ensures
    _ c.self.view_is c.requires.hand c.requires.from
