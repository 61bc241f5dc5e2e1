use Rattle.std.proofs.Common.{refl}
use Rattle.local_manager.specs.Mail.{letters_in}
use Rattle.local_manager.specs.Views.{CanEnter, WorldParts}
use Rattle.local_manager.proofs.Entering.{first_ready, tick_sound}
use Rattle.local_manager.proofs.world.World.enter_tick.Goals as goal

pub invariant_of-self-2 : goal.invariant_of-self-2
invariant_of-self-2 g c =
    let s = c.self.inside in
    let v : WorldParts g.row.A.Denot = record {
      one = record {
        parameters = s.parameters;
        states = s.states.items;
        agenda = s.directory.agenda;
        letters = letters_in s.phase s.store
            s.opened.list;
        newborn = s.newborn.items;
        scheduled = s.directory.scheduled;
        cast = s.cast.items;
        dead_letters = s.dead_letters;
      };
      placed = s.directory.placed;
      policy = s.policy;
      moment = s.moment;
      phase = s.phase;
    } in
    let can : CanEnter v c.args.at = rw (← c.self.view_is) at c.requires.next in
    let ready = first_ready g.A.Actor.meaning v c.args.at s.store s.opened.list s.spans.items s.called.items s.creators.items refl c.self.invariant can
    c.requires.diasca in
    rw (c.in_ok-take_tick.ensures.ok, c.clear.ensures.list) (tick_sound g.A.Actor.meaning v c.args.at s.store s.spans.items ready.0 ready.1
    c.requires.diasca c.requires.tick)
