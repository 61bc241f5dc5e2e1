use Rattle.std.proofs.Common.{◌≡◌, drop, ◌++◌}
use Rattle.sim_model.specs.Moment.{post}
use Rattle.domain_tests.proofs.moments.post.Given as goal

abbrev pub invariant-loop-parcel : goal.invariant-loop-parcel
invariant-loop-parcel l =
    (l.serial ≡ l.parcel-index)
    × (l.letters.items ++ post l.from l.serial (drop l.parcel-index l.parcels) ≡ l.fn.letters.items ++ post l.from 0 l.parcels)
