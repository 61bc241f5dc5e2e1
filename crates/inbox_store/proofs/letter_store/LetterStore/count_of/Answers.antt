use Rattle.std.proofs.Common.{arith}
use Rattle.inbox_store.proofs.Views.{length_list}
use Rattle.inbox_store.proofs.letter_store.LetterStore.count_of.Goals as goal

pub returns-in-Some : goal.returns-in-Some
returns-in-Some c = grind (arith, length_list c.self.inside.nodes.items c.self.inside.chains.items c.args.to.0)
