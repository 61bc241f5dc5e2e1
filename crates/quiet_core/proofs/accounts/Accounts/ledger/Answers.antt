use Rattle.std.proofs.Common.{arith}
use Rattle.quiet_core.proofs.Books.{hands_book, ledger_book}
use Rattle.quiet_core.proofs.accounts.Accounts.ledger.Goals as goal

pub index-requires : goal.index-requires
index-requires c = let same = hands_book (λ row. row.items) c.self.inside.ledgers.items c.self.inside.numbers.items _ c.self.view_is in omega arith

pub returns : goal.returns
returns c = ledger_book (λ row. row.items) c.self.inside.ledgers.items c.self.inside.numbers.items c.args.hand c.index.result.now _ c.self.view_is c.requires c.index.ensures
