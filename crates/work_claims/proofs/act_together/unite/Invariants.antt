use Rattle.std.proofs.Common.{◌≡◌, ◌+◌, length, vec_len}
use Rattle.std.specs.List.{All}
use Rattle.std.specs.Vec.Iter.{into_iter_items, into_iter_len}
use Rattle.work_claims.specs.Together.{Worked}
use Rattle.work_claims.proofs.act_together.unite.Given as goal

abbrev pub invariant-loop-acted : goal.invariant-loop-acted
invariant-loop-acted g l = record {
  worked : Worked g.A.Actor.meaning (g.W.Scene.placed l.world) l.round (1 + length l.yielded)
      (record { hand = l.hand; reports = l.reports.items; short = l.short });
  rest : All (Worked g.A.Actor.meaning (g.W.Scene.placed l.world) l.round 1) (into_iter_items l.acted-iterator);
  count : length l.yielded + into_iter_len l.acted-iterator ≡ vec_len l.fn.others;
}
