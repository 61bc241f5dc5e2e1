use Rattle.std.proofs.Common.{◌≢◌}
use Rattle.local_manager.specs.Mail.{letters_in}
use Rattle.local_manager.specs.Views.{WorldParts}
use Rattle.local_manager.specs.declared.phase.Phase.TheVariants.{Torn}
use Rattle.local_manager.proofs.Standing.{scheduled_few, upright_in}
use Rattle.local_manager.proofs.world.World.count_scheduled.Goals as goal

pub count_scheduled-requires : goal.count_scheduled-requires
count_scheduled-requires g c =
    let s = c.self.inside in
    let v : WorldParts g.row.A.Denot = record {
      one = record {
        parameters = s.parameters;
        states = s.states.items;
        agenda = s.directory.agenda;
        letters = letters_in s.phase s.store
            s.opened.list;
        newborn = s.newborn.items;
        scheduled = s.directory.scheduled;
        cast = s.cast.items;
        dead_letters = s.dead_letters;
      };
      placed = s.directory.placed;
      policy = s.policy;
      moment = s.moment;
      phase = s.phase;
    } in
    let still : s.phase ≢ Torn = rw (← c.self.view_is) at c.requires.standing in
    record {
      few = scheduled_few g.A.Actor.meaning v (upright_in s.phase g.A.Actor.meaning v s.store s.opened.list s.spans.items s.called.items
          s.creators.items still c.self.invariant);
    }
