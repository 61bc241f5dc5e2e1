use Rattle.std.proofs.Common.{◌≡◌, arith}
use Rattle.local_manager.specs.Mail.{letters_in}
use Rattle.local_manager.specs.Views.{WorldParts, managers_of}
use Rattle.local_manager.proofs.Standing.{one_home}
use Rattle.local_manager.proofs.world.World.route.Goals as goal

pub returns-then-managers-eq1-clause-home : goal.returns-then-managers-eq1-clause-home
returns-then-managers-eq1-clause-home g c =
    let s = c.self.inside in
    let v : WorldParts g.row.A.Denot = record {
      one = record {
        parameters = s.parameters;
        states = s.states.items;
        agenda = s.directory.agenda;
        letters = letters_in s.phase s.store
            s.opened.list;
        newborn = s.newborn.items;
        scheduled = s.directory.scheduled;
        cast = s.cast.items;
        dead_letters = s.dead_letters;
      };
      placed = s.directory.placed;
      policy = s.policy;
      moment = s.moment;
      phase = s.phase;
    } in
    let one : managers_of v ≡ 1 = omega (arith, c.managers.ensures.count, c.if-managers-eq1.true) in
    rw (← c.self.view_is) (one_home v c.args.id one c.managers.ensures.homes)
