use Rattle.std.proofs.Common.{◌∙◌, ap, refl}
use Rattle.std.specs.Vec.{with_item}
use Rattle.quiet_core.specs.Entries.{Book}
use Rattle.quiet_core.proofs.Books.{enter_book, sched_same}
use Rattle.quiet_core.proofs.accounts.Accounts.enter.Goals as goal

pub returns-clause-sched : goal.returns-clause-sched
returns-clause-sched c =
    let row = c.index_mut-row.result.now in
    sched_same (λ row. row.items) c.self.inside.numbers.items c.args.m c.args.i c.args.entry row (with_item row c.args.i c.args.entry) c.index_mut-row.ensures.value refl
    ∙ ap (λ (b : Book). b.sched) c.self.view_is

pub returns-clause-accounts : goal.returns-clause-accounts
returns-clause-accounts c =
    let row = c.index_mut-row.result.now in
    enter_book (λ row. row.items) c.self.inside.ledgers.items c.self.inside.numbers.items c.args.hand c.args.m c.args.i c.args.entry row (with_item row c.args.i c.args.entry)
    c.index_mut-row.ensures.value refl _ c.self.view_is c.requires.hand c.requires.manager c.requires.number c.requires.own c.requires.alone
