use Rattle.std.proofs.Common.{arith}
use Rattle.inbox_store.proofs.Views.{sound_empty}
use Rattle.inbox_store.proofs.letter_store.LetterStore.new.Goals as goal

pub invariant_of-result : goal.invariant_of-result
invariant_of-result c = rw (c.new.ensures.items, c.new-2.ensures.items) (sound_empty, λ h. absurd (omega arith))
