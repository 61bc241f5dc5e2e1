use Rattle.std.proofs.Common.{◌≡◌, [], refl}
use Rattle.std.specs.List.{flat_map}
use Rattle.sim_model.specs.SetupParts.{SetupParts}
use Rattle.local_manager.proofs.Beginning.{flat_none, opening_sound}
use Rattle.local_manager.proofs.world.World.open.Goals as goal

pub invariant_of-result : goal.invariant_of-result
invariant_of-result g c =
    let s = c.setup.inside in
    let u : SetupParts g.row.A.Denot = record {
      seed = s.seed;
      last_tick = s.last_tick;
      diasca_limit = s.diasca_limit;
      max_actors = s.max_actors;
      actors = s.actors;
      urgent = s.urgent;
    } in
    let none : flat_map (λ l. l) c.new-2.result.lists ≡ [] = flat_none c.new-2.result.lists c.new-2.ensures.empty in
    rw (
      c.in_ok-states.ensures,
      c.into_vec.ensures,
      c.in_ok-admit_first.ensures,
      c.as_slice.ensures,
      c.in_ok-directory.ensures,
      none,
      c.new-5.ensures.items,
      c.in_ok-cast.ensures,
      c.as_slice-2.ensures,
    )
    (opening_sound g.A.Actor.meaning u c.args.managers c.args.policy c.new-2.result c.setup.invariant (λ to. c.new-2.ensures.empty to.0))

pub returns-clause-world : goal.returns-clause-world
returns-clause-world g c =
    let none : flat_map (λ l. l) c.new-2.result.lists ≡ [] = flat_none c.new-2.result.lists c.new-2.ensures.empty in
    rw (
      ← c.setup.view_is,
      c.in_ok-states.ensures,
      c.into_vec.ensures,
      c.in_ok-admit_first.ensures,
      c.in_ok-directory.ensures,
      none,
      c.new-5.ensures.items,
      c.in_ok-cast.ensures,
      c.as_slice-2.ensures,
    )
    refl
