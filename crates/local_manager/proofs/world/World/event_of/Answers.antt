use Rattle.std.proofs.Common.{◌≡◌, ◌||◌, List, refl, ap}
use Rattle.sim_base.specs.declared.ids.ActorId.{ActorId}
use Rattle.actor_trait.specs.declared.letter.Letter.{Letter}
use Rattle.local_manager.specs.Mail.{letters_in}
use Rattle.local_manager.specs.Views.{WorldParts, actor_at}
use Rattle.actor_trait.specs.Seen.{seen}
use Rattle.sim_model.specs.Moment.{is_among, is_opening, is_spontaneous}
use Rattle.local_manager.specs.declared.phase.Phase.TheVariants.{Entered}
use Rattle.local_manager.proofs.Entering.{inbox_seen, sound_entered}
use Rattle.local_manager.proofs.world.World.event_of.Goals as goal

pub returns : goal.returns
returns g c =
    let s = c.self.inside in
    let v : WorldParts g.row.A.Denot = record {
      one = record {
        parameters = s.parameters;
        states = s.states.items;
        agenda = s.directory.agenda;
        letters = letters_in s.phase s.store
            s.opened.list;
        newborn = s.newborn.items;
        scheduled = s.directory.scheduled;
        cast = s.cast.items;
        dead_letters = s.dead_letters;
      };
      placed = s.directory.placed;
      policy = s.policy;
      moment = s.moment;
      phase = s.phase;
    } in
    let e : s.phase ≡ Entered = rw (← c.self.view_is) at c.requires.entered in
    let sound = sound_entered g.A.Actor.meaning v s.store s.opened.list s.spans.items s.called.items s.creators.items e refl c.self.invariant in
    let id : ActorId = actor_at v c.args.m.0 c.args.i in
    record {
      event = rw (
        c.is_first.ensures,
        c.is_spontaneous.ensures,
        c.deref.ensures.value,
        c.inbox_in.ensures,
        c.as_slice.ensures,
        c.scheduled.ensures.ids,
        ← c.self.view_is,
      )
          (ap (λ (box : List Letter). seen (is_opening s.moment || is_among s.newborn.items id) (is_spontaneous s.moment) box)
          (inbox_seen g.A.Actor.meaning v s.store s.opened.list s.spans.items id sound.0 sound.1));
    }
