use Rattle.std.proofs.Common.{◌≡◌, ◌<◌, length, refl}
use Rattle.local_manager.specs.Mail.{letters_in}
use Rattle.local_manager.specs.Views.{WorldParts, scheduled_at}
use Rattle.local_manager.specs.declared.phase.Phase.TheVariants.{Entered}
use Rattle.local_manager.proofs.Entering.{sound_entered}
use Rattle.local_manager.proofs.Standing.{scheduled_lives}
use Rattle.local_manager.proofs.world.World.state_of.Goals as goal

pub living_state-requires : goal.living_state-requires
living_state-requires g c =
    let s = c.self.inside in
    let v : WorldParts g.row.A.Denot = record {
      one = record {
        parameters = s.parameters;
        states = s.states.items;
        agenda = s.directory.agenda;
        letters = letters_in s.phase s.store
            s.opened.list;
        newborn = s.newborn.items;
        scheduled = s.directory.scheduled;
        cast = s.cast.items;
        dead_letters = s.dead_letters;
      };
      placed = s.directory.placed;
      policy = s.policy;
      moment = s.moment;
      phase = s.phase;
    } in
    let e : s.phase ≡ Entered = rw (← c.self.view_is) at c.requires.entered in
    let sound = (sound_entered g.A.Actor.meaning v s.store s.opened.list s.spans.items s.called.items s.creators.items e refl c.self.invariant).0 in
    let within : c.args.i < length (scheduled_at v c.args.m.0) = rw (← c.self.view_is) at c.requires.place in
    rw (c.deref.ensures.value, c.scheduled.ensures.ids, ← c.self.view_is) (scheduled_lives g.A.Actor.meaning v c.args.m.0 c.args.i sound.upright within)
