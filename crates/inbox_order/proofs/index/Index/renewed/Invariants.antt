use Rattle.std.proofs.Common.{take}
use Rattle.inbox_order.specs.Index.{IsIndex}
use Rattle.inbox_order.proofs.index.Index.renewed.Given as goal

abbrev pub invariant-loop-at : goal.invariant-loop-at
invariant-loop-at l = IsIndex (take l.at l.letters) l.recipients.items l.starts.items
