use Rattle.std.proofs.Common.{◌≡◌, Some, map, slice_get, arith, refl, ◌∙◌}
use Rattle.std.proofs.lemmas.List.{length-map}
use Rattle.std.proofs.lemmas.Option.{slice_get-map}
use Rattle.sim_base.specs.declared.ids.ActorId.{ActorId}
use Rattle.sim_base.specs.Room.{Room}
use Rattle.local_manager.proofs.Keeping.{stands}
use Rattle.local_manager.proofs.directory.Directory.scheduled.Goals as goal

pub returns : goal.returns
returns g c =
    let k = c.self.invariant in
    let lists = c.self.inside.lists.items in
    let within = rw (← c.self.view_is) at c.requires in
    let many = length-map {A = Room ActorId} lists (λ r. r.list) in
    let here = stands lists c.args.m c.index.result.now c.index.result.now (omega (arith, within, many, k.lists_each, k.loads_each)) c.index.ensures in
    let there : slice_get (map {A = Room ActorId} (λ r. r.list) lists) c.args.m ≡ Some c.index.result.now.list =
    slice_get-map {A = Room ActorId} (λ r. r.list) lists c.args.m ∙ rw here refl in
    rw (← c.self.view_is) (c.as_slice.ensures ∙ k.ids c.args.m c.index.result.now.list there)
