use Rattle.std.proofs.Common.{arith}
use Rattle.quiet_core.proofs.Books.{hands_book}
use Rattle.quiet_core.proofs.accounts.Accounts.hands.Goals as goal

pub returns : goal.returns
returns c = let same = hands_book (λ row. row.items) c.self.inside.ledgers.items c.self.inside.numbers.items _ c.self.view_is in omega arith
