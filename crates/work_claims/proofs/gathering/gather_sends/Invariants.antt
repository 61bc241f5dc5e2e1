use Rattle.std.proofs.Common.{◌≡◌, drop, ◌++◌, false, get_or}
use Rattle.std.specs.List.{filter}
use Rattle.sim_model.specs.Moment.{post}
use Rattle.work_claims.proofs.gathering.gather_sends.Given as goal

abbrev pub invariant-loop-parcel : goal.invariant-loop-parcel
invariant-loop-parcel g l =
    (l.serial ≡ l.parcel-index)
    × (l.letters.items ++ filter (λ x. get_or l.mine ((g.W.Scene.placed l.world).route x.to) false) (post l.from l.serial (drop l.parcel-index l.parcels))
    ≡ l.fn.letters.items ++ filter (λ x. get_or l.mine ((g.W.Scene.placed l.world).route x.to) false) (post l.from 0 l.parcels))
