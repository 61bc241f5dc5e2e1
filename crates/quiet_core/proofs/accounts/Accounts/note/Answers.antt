use Rattle.std.proofs.Common.{◌∙◌, ap, sym, subst, set, arith}
use Rattle.quiet_core.specs.Account.{Account, account}
use Rattle.quiet_core.specs.Noted.{noted, Roomy}
use Rattle.quiet_core.proofs.Books.{hands_book, ledger_book, note_book}
use Rattle.quiet_core.proofs.Parts.{noted_marks, roomy_marks}
use Rattle.quiet_core.proofs.accounts.Accounts.note.Goals as goal

pub index_mut-ledger-requires : goal.index_mut-ledger-requires
index_mut-ledger-requires c =
    let same = hands_book (λ row. row.items) c.self.inside.ledgers.items c.self.inside.numbers.items _ c.self.view_is in
    let known = c.requires.hand in
    omega arith

pub note-requires-clause-roomy : goal.note-requires-clause-roomy
note-requires-clause-roomy c =
    let l = c.index_mut-ledger.result.now in
    let is = ledger_book (λ row. row.items) c.self.inside.ledgers.items c.self.inside.numbers.items c.args.hand l _ c.self.view_is c.requires.hand c.index_mut-ledger.ensures.value in
    subst (λ (a : Account). Roomy c.args.deed c.args.found a) (sym is) (roomy_marks c.args.deed c.args.found _ l.marks c.requires.roomy)

pub returns-clause-accounts : goal.returns-clause-accounts
returns-clause-accounts c =
    let t = c.args.frame.now in
    let h = c.args.hand in
    let d = c.args.deed in
    let x = c.args.found in
    let l = c.index_mut-ledger.result.now in
    let xs = c.args.self.now.accounts in
    let is = ledger_book (λ row. row.items) c.self.inside.ledgers.items c.self.inside.numbers.items h l _ c.self.view_is c.requires.hand c.index_mut-ledger.ensures.value in
    note_book (λ row. row.items) c.self.inside.ledgers.items c.self.inside.numbers.items h c.note.new.self _ c.self.view_is c.requires.hand
    ∙ ap (λ (a : Account). set xs h a)
    (ap (λ (a : Account). record a { marks = (account xs h).marks }) (c.note.ensures ∙ ap (λ (a : Account). noted t d x a) is) ∙ noted_marks t d x (account xs h) l.marks)
