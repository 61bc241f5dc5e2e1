use Rattle.std.proofs.Common.{◌≡◌, ◌+◌, length, vec_len}
use Rattle.std.specs.List.{All}
use Rattle.std.specs.Vec.Iter.{into_iter_items, into_iter_len}
use Rattle.work_claims.specs.Together.{Gathered, Helped}
use Rattle.work_claims.proofs.collect_together.unite.Given as goal

abbrev pub invariant-loop-collected : goal.invariant-loop-collected
invariant-loop-collected g l = record {
  gathered : Gathered g.A.Actor.meaning (g.W.Scene.placed l.world) l.round (1 + length l.yielded) l.reports
      (record { hand = l.hand; inboxes = l.inboxes.items; short = l.short });
  rest : All (Helped g.A.Actor.meaning (g.W.Scene.placed l.world) l.round l.reports) (into_iter_items l.collected-iterator);
  count : length l.yielded + into_iter_len l.collected-iterator ≡ vec_len l.fn.others;
}
