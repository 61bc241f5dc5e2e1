use Rattle.std.proofs.Common.{◌≡◌, None, map, refl, ◌∙◌}
use Rattle.sim_model.specs.Births.{birth_letter, without_births}
use Rattle.sim_model.specs.Moment.{fault_of_moment, retired}
use Rattle.local_manager.specs.Mail.{letters_in}
use Rattle.local_manager.specs.Views.{AreInboxesNow, WorldParts, born_now, reports_now}
use Rattle.local_manager.specs.declared.phase.Phase.TheVariants.{Entered}
use Rattle.local_manager.proofs.Entering.{sound_entered}
use Rattle.local_manager.proofs.Made.{can_admit, can_post, closes, states_few}
use Rattle.local_manager.proofs.world.World.close_with.Goals as goal

pub admit-requires-clause-numbered : goal.admit-requires-clause-numbered
admit-requires-clause-numbered g c =
    let s = c.self.inside in
    let v : WorldParts g.row.A.Denot = record {
      one = record {
        parameters = s.parameters;
        states = s.states.items;
        agenda = s.directory.agenda;
        letters = letters_in s.phase s.store
            s.opened.list;
        newborn = s.newborn.items;
        scheduled = s.directory.scheduled;
        cast = s.cast.items;
        dead_letters = s.dead_letters;
      };
      placed = s.directory.placed;
      policy = s.policy;
      moment = s.moment;
      phase = s.phase;
    } in
    let e : s.phase ≡ Entered = rw (← c.self.view_is) at c.requires.entered in
    let sound = (sound_entered g.A.Actor.meaning v s.store s.opened.list s.spans.items s.called.items s.creators.items e refl c.self.invariant).0 in
    let calm : fault_of_moment g.A.Actor.meaning v.one v.moment (reports_now g.A.Actor.meaning v) ≡ None = rw (← c.self.view_is) at c.requires.calm in
    let kept : c.into_vec-reports.result.items ≡ map without_births (reports_now g.A.Actor.meaning v) =
    c.into_vec-reports.ensures ∙ (rw (← c.self.view_is) at c.requires.kept) in
    let gone : c.as_slice.result.now ≡ retired (reports_now g.A.Actor.meaning v) = c.as_slice.ensures ∙ (rw (← c.self.view_is) at c.requires.gone) in
    let born : c.into_vec.result.items ≡ born_now g.A.Actor.meaning v = c.into_vec.ensures ∙ (rw (← c.self.view_is) at c.requires.born) in
    let can = can_admit g.A.Actor.meaning g.met.A.Actor.lawful v sound.upright calm in
    rw (c.in_ok-carry_out.ensures.directory, gone, born) can.numbered

pub admit-requires-clause-room : goal.admit-requires-clause-room
admit-requires-clause-room g c =
    let s = c.self.inside in
    let v : WorldParts g.row.A.Denot = record {
      one = record {
        parameters = s.parameters;
        states = s.states.items;
        agenda = s.directory.agenda;
        letters = letters_in s.phase s.store
            s.opened.list;
        newborn = s.newborn.items;
        scheduled = s.directory.scheduled;
        cast = s.cast.items;
        dead_letters = s.dead_letters;
      };
      placed = s.directory.placed;
      policy = s.policy;
      moment = s.moment;
      phase = s.phase;
    } in
    let e : s.phase ≡ Entered = rw (← c.self.view_is) at c.requires.entered in
    let sound = (sound_entered g.A.Actor.meaning v s.store s.opened.list s.spans.items s.called.items s.creators.items e refl c.self.invariant).0 in
    let calm : fault_of_moment g.A.Actor.meaning v.one v.moment (reports_now g.A.Actor.meaning v) ≡ None = rw (← c.self.view_is) at c.requires.calm in
    let kept : c.into_vec-reports.result.items ≡ map without_births (reports_now g.A.Actor.meaning v) =
    c.into_vec-reports.ensures ∙ (rw (← c.self.view_is) at c.requires.kept) in
    let gone : c.as_slice.result.now ≡ retired (reports_now g.A.Actor.meaning v) = c.as_slice.ensures ∙ (rw (← c.self.view_is) at c.requires.gone) in
    let born : c.into_vec.result.items ≡ born_now g.A.Actor.meaning v = c.into_vec.ensures ∙ (rw (← c.self.view_is) at c.requires.born) in
    let can = can_admit g.A.Actor.meaning g.met.A.Actor.lawful v sound.upright calm in
    rw (c.in_ok-carry_out.ensures.directory, gone, born) can.room

pub admit-requires-clause-known : goal.admit-requires-clause-known
admit-requires-clause-known g c =
    let s = c.self.inside in
    let v : WorldParts g.row.A.Denot = record {
      one = record {
        parameters = s.parameters;
        states = s.states.items;
        agenda = s.directory.agenda;
        letters = letters_in s.phase s.store
            s.opened.list;
        newborn = s.newborn.items;
        scheduled = s.directory.scheduled;
        cast = s.cast.items;
        dead_letters = s.dead_letters;
      };
      placed = s.directory.placed;
      policy = s.policy;
      moment = s.moment;
      phase = s.phase;
    } in
    let e : s.phase ≡ Entered = rw (← c.self.view_is) at c.requires.entered in
    let sound = (sound_entered g.A.Actor.meaning v s.store s.opened.list s.spans.items s.called.items s.creators.items e refl c.self.invariant).0 in
    let calm : fault_of_moment g.A.Actor.meaning v.one v.moment (reports_now g.A.Actor.meaning v) ≡ None = rw (← c.self.view_is) at c.requires.calm in
    let kept : c.into_vec-reports.result.items ≡ map without_births (reports_now g.A.Actor.meaning v) =
    c.into_vec-reports.ensures ∙ (rw (← c.self.view_is) at c.requires.kept) in
    let gone : c.as_slice.result.now ≡ retired (reports_now g.A.Actor.meaning v) = c.as_slice.ensures ∙ (rw (← c.self.view_is) at c.requires.gone) in
    let born : c.into_vec.result.items ≡ born_now g.A.Actor.meaning v = c.into_vec.ensures ∙ (rw (← c.self.view_is) at c.requires.born) in
    let can = can_admit g.A.Actor.meaning g.met.A.Actor.lawful v sound.upright calm in
    rw (c.in_ok-carry_out.ensures.directory, kept, gone) can.known

pub deliver-requires-clause-empty : goal.deliver-requires-clause-empty
deliver-requires-clause-empty g c =
    let s = c.self.inside in
    let v : WorldParts g.row.A.Denot = record {
      one = record {
        parameters = s.parameters;
        states = s.states.items;
        agenda = s.directory.agenda;
        letters = letters_in s.phase s.store
            s.opened.list;
        newborn = s.newborn.items;
        scheduled = s.directory.scheduled;
        cast = s.cast.items;
        dead_letters = s.dead_letters;
      };
      placed = s.directory.placed;
      policy = s.policy;
      moment = s.moment;
      phase = s.phase;
    } in
    let e : s.phase ≡ Entered = rw (← c.self.view_is) at c.requires.entered in
    let sound = (sound_entered g.A.Actor.meaning v s.store s.opened.list s.spans.items s.called.items s.creators.items e refl c.self.invariant).0 in
    sound.empty

pub deliver-requires-clause-few : goal.deliver-requires-clause-few
deliver-requires-clause-few g c =
    let s = c.self.inside in
    let v : WorldParts g.row.A.Denot = record {
      one = record {
        parameters = s.parameters;
        states = s.states.items;
        agenda = s.directory.agenda;
        letters = letters_in s.phase s.store
            s.opened.list;
        newborn = s.newborn.items;
        scheduled = s.directory.scheduled;
        cast = s.cast.items;
        dead_letters = s.dead_letters;
      };
      placed = s.directory.placed;
      policy = s.policy;
      moment = s.moment;
      phase = s.phase;
    } in
    let e : s.phase ≡ Entered = rw (← c.self.view_is) at c.requires.entered in
    let sound = (sound_entered g.A.Actor.meaning v s.store s.opened.list s.spans.items s.called.items s.creators.items e refl c.self.invariant).0 in
    let calm : fault_of_moment g.A.Actor.meaning v.one v.moment (reports_now g.A.Actor.meaning v) ≡ None = rw (← c.self.view_is) at c.requires.calm in
    let kept : c.into_vec-reports.result.items ≡ map without_births (reports_now g.A.Actor.meaning v) =
    c.into_vec-reports.ensures ∙ (rw (← c.self.view_is) at c.requires.kept) in
    let born : c.into_vec.result.items ≡ born_now g.A.Actor.meaning v = c.into_vec.ensures ∙ (rw (← c.self.view_is) at c.requires.born) in
    rw c.deref.ensures.value (states_few g.A.Actor.meaning v c.carry_out.new.states.items c.admit.new.states.items c.into_vec-reports.result.items
    c.into_vec.result.items sound.upright calm kept born c.in_ok-carry_out.ensures.states c.in_ok-self-inside.ensures.states)

pub creators_of-requires : goal.creators_of-requires
creators_of-requires g c =
    let s = c.self.inside in
    let v : WorldParts g.row.A.Denot = record {
      one = record {
        parameters = s.parameters;
        states = s.states.items;
        agenda = s.directory.agenda;
        letters = letters_in s.phase s.store
            s.opened.list;
        newborn = s.newborn.items;
        scheduled = s.directory.scheduled;
        cast = s.cast.items;
        dead_letters = s.dead_letters;
      };
      placed = s.directory.placed;
      policy = s.policy;
      moment = s.moment;
      phase = s.phase;
    } in
    let e : s.phase ≡ Entered = rw (← c.self.view_is) at c.requires.entered in
    let sound = (sound_entered g.A.Actor.meaning v s.store s.opened.list s.spans.items s.called.items s.creators.items e refl c.self.invariant).0 in
    let calm : fault_of_moment g.A.Actor.meaning v.one v.moment (reports_now g.A.Actor.meaning v) ≡ None = rw (← c.self.view_is) at c.requires.calm in
    let told : c.args.told ≡ map birth_letter (born_now g.A.Actor.meaning v) = rw (← c.self.view_is) at c.requires.told in
    let can = can_post g.A.Actor.meaning g.met.A.Actor.lawful v sound.upright calm in
    rw (c.as_slice-3.ensures, told) can.told

pub put_called-requires-clause-newborn : goal.put_called-requires-clause-newborn
put_called-requires-clause-newborn g c =
    let s = c.self.inside in
    let v : WorldParts g.row.A.Denot = record {
      one = record {
        parameters = s.parameters;
        states = s.states.items;
        agenda = s.directory.agenda;
        letters = letters_in s.phase s.store
            s.opened.list;
        newborn = s.newborn.items;
        scheduled = s.directory.scheduled;
        cast = s.cast.items;
        dead_letters = s.dead_letters;
      };
      placed = s.directory.placed;
      policy = s.policy;
      moment = s.moment;
      phase = s.phase;
    } in
    let e : s.phase ≡ Entered = rw (← c.self.view_is) at c.requires.entered in
    let sound = (sound_entered g.A.Actor.meaning v s.store s.opened.list s.spans.items s.called.items s.creators.items e refl c.self.invariant).0 in
    let calm : fault_of_moment g.A.Actor.meaning v.one v.moment (reports_now g.A.Actor.meaning v) ≡ None = rw (← c.self.view_is) at c.requires.calm in
    let born : c.into_vec.result.items ≡ born_now g.A.Actor.meaning v = c.into_vec.ensures ∙ (rw (← c.self.view_is) at c.requires.born) in
    let can = can_post g.A.Actor.meaning g.met.A.Actor.lawful v sound.upright calm in
    rw (c.deref-4.ensures.value, c.in_ok-self-inside.ensures.ids, born) can.newborn

pub put_called-requires-clause-creators : goal.put_called-requires-clause-creators
put_called-requires-clause-creators g c = rw c.deref-5.ensures.value c.in_ok-self-inside-2.ensures.ascending

pub invariant_of-self-2 : goal.invariant_of-self-2
invariant_of-self-2 g c =
    let s = c.self.inside in
    let v : WorldParts g.row.A.Denot = record {
      one = record {
        parameters = s.parameters;
        states = s.states.items;
        agenda = s.directory.agenda;
        letters = letters_in s.phase s.store
            s.opened.list;
        newborn = s.newborn.items;
        scheduled = s.directory.scheduled;
        cast = s.cast.items;
        dead_letters = s.dead_letters;
      };
      placed = s.directory.placed;
      policy = s.policy;
      moment = s.moment;
      phase = s.phase;
    } in
    let e : s.phase ≡ Entered = rw (← c.self.view_is) at c.requires.entered in
    let sound = (sound_entered g.A.Actor.meaning v s.store s.opened.list s.spans.items s.called.items s.creators.items e refl c.self.invariant).0 in
    let calm : fault_of_moment g.A.Actor.meaning v.one v.moment (reports_now g.A.Actor.meaning v) ≡ None = rw (← c.self.view_is) at c.requires.calm in
    let kept : c.into_vec-reports.result.items ≡ map without_births (reports_now g.A.Actor.meaning v) =
    c.into_vec-reports.ensures ∙ (rw (← c.self.view_is) at c.requires.kept) in
    let gone : c.as_slice.result.now ≡ retired (reports_now g.A.Actor.meaning v) = c.as_slice.ensures ∙ (rw (← c.self.view_is) at c.requires.gone) in
    let born : c.into_vec.result.items ≡ born_now g.A.Actor.meaning v = c.into_vec.ensures ∙ (rw (← c.self.view_is) at c.requires.born) in
    let told : c.args.told ≡ map birth_letter (born_now g.A.Actor.meaning v) = rw (← c.self.view_is) at c.requires.told in
    let boxes : AreInboxesNow g.A.Actor.meaning v c.args.inboxes = rw (← c.self.view_is) at c.requires.inboxes in
    let all = closes g.A.Actor.meaning g.met.A.Actor.lawful v c.args.inboxes c.carry_out.new.directory c.admit.new.directory
    c.carry_out.new.states.items c.admit.new.states.items
    c.in_ok-self-inside.field-0.items c.put_called.new.called.items c.in_ok-self-inside-2.field-0.items c.admit.new.cast.items c.deliver.new.store
    c.saturating_add-self-inside.result
    c.in_ok-dead.dead c.into_vec-reports.result.items c.into_vec.result.items c.args.told c.as_slice.result.now sound.upright calm boxes (record {
      emptied = kept;
      bears = born;
      tells = told;
      leave = gone;
      states = c.in_ok-carry_out.ensures.states;
      directory = c.in_ok-carry_out.ensures.directory;
      placed = c.in_ok-self-inside.ensures.directory;
      joined = c.in_ok-self-inside.ensures.cast;
      all = c.in_ok-self-inside.ensures.states;
      ids = c.in_ok-self-inside.ensures.ids;
      lists = rw (c.deref.ensures.value, c.as_slice-2.ensures) at c.in_ok-dead.ensures.lists;
      unread = rw (c.deref.ensures.value, c.as_slice-2.ensures) at c.in_ok-dead.ensures.dead;
      ascending = c.in_ok-self-inside-2.ensures.ascending;
      creates = rw (c.deref-2.ensures.value, c.as_slice-3.ensures) at c.in_ok-self-inside-2.ensures.each;
      rising = c.in_ok-put_called.ensures.ascending;
      calls = rw (c.deref-3.ensures.value, c.deref-4.ensures.value, c.deref-5.ensures.value) at c.in_ok-put_called.ensures.each;
      count = c.saturating_add-self-inside.ensures;
    }) in
    all.sound

pub returns-clause-closed : goal.returns-clause-closed
returns-clause-closed g c =
    let s = c.self.inside in
    let v : WorldParts g.row.A.Denot = record {
      one = record {
        parameters = s.parameters;
        states = s.states.items;
        agenda = s.directory.agenda;
        letters = letters_in s.phase s.store
            s.opened.list;
        newborn = s.newborn.items;
        scheduled = s.directory.scheduled;
        cast = s.cast.items;
        dead_letters = s.dead_letters;
      };
      placed = s.directory.placed;
      policy = s.policy;
      moment = s.moment;
      phase = s.phase;
    } in
    let e : s.phase ≡ Entered = rw (← c.self.view_is) at c.requires.entered in
    let sound = (sound_entered g.A.Actor.meaning v s.store s.opened.list s.spans.items s.called.items s.creators.items e refl c.self.invariant).0 in
    let calm : fault_of_moment g.A.Actor.meaning v.one v.moment (reports_now g.A.Actor.meaning v) ≡ None = rw (← c.self.view_is) at c.requires.calm in
    let kept : c.into_vec-reports.result.items ≡ map without_births (reports_now g.A.Actor.meaning v) =
    c.into_vec-reports.ensures ∙ (rw (← c.self.view_is) at c.requires.kept) in
    let gone : c.as_slice.result.now ≡ retired (reports_now g.A.Actor.meaning v) = c.as_slice.ensures ∙ (rw (← c.self.view_is) at c.requires.gone) in
    let born : c.into_vec.result.items ≡ born_now g.A.Actor.meaning v = c.into_vec.ensures ∙ (rw (← c.self.view_is) at c.requires.born) in
    let told : c.args.told ≡ map birth_letter (born_now g.A.Actor.meaning v) = rw (← c.self.view_is) at c.requires.told in
    let boxes : AreInboxesNow g.A.Actor.meaning v c.args.inboxes = rw (← c.self.view_is) at c.requires.inboxes in
    let all = closes g.A.Actor.meaning g.met.A.Actor.lawful v c.args.inboxes c.carry_out.new.directory c.admit.new.directory
    c.carry_out.new.states.items c.admit.new.states.items
    c.in_ok-self-inside.field-0.items c.put_called.new.called.items c.in_ok-self-inside-2.field-0.items c.admit.new.cast.items c.deliver.new.store
    c.saturating_add-self-inside.result
    c.in_ok-dead.dead c.into_vec-reports.result.items c.into_vec.result.items c.args.told c.as_slice.result.now sound.upright calm boxes (record {
      emptied = kept;
      bears = born;
      tells = told;
      leave = gone;
      states = c.in_ok-carry_out.ensures.states;
      directory = c.in_ok-carry_out.ensures.directory;
      placed = c.in_ok-self-inside.ensures.directory;
      joined = c.in_ok-self-inside.ensures.cast;
      all = c.in_ok-self-inside.ensures.states;
      ids = c.in_ok-self-inside.ensures.ids;
      lists = rw (c.deref.ensures.value, c.as_slice-2.ensures) at c.in_ok-dead.ensures.lists;
      unread = rw (c.deref.ensures.value, c.as_slice-2.ensures) at c.in_ok-dead.ensures.dead;
      ascending = c.in_ok-self-inside-2.ensures.ascending;
      creates = rw (c.deref-2.ensures.value, c.as_slice-3.ensures) at c.in_ok-self-inside-2.ensures.each;
      rising = c.in_ok-put_called.ensures.ascending;
      calls = rw (c.deref-3.ensures.value, c.deref-4.ensures.value, c.deref-5.ensures.value) at c.in_ok-put_called.ensures.each;
      count = c.saturating_add-self-inside.ensures;
    }) in
    rw (← c.self.view_is) all.closed

pub returns-clause-dead : goal.returns-clause-dead
returns-clause-dead g c =
    let s = c.self.inside in
    let v : WorldParts g.row.A.Denot = record {
      one = record {
        parameters = s.parameters;
        states = s.states.items;
        agenda = s.directory.agenda;
        letters = letters_in s.phase s.store
            s.opened.list;
        newborn = s.newborn.items;
        scheduled = s.directory.scheduled;
        cast = s.cast.items;
        dead_letters = s.dead_letters;
      };
      placed = s.directory.placed;
      policy = s.policy;
      moment = s.moment;
      phase = s.phase;
    } in
    let e : s.phase ≡ Entered = rw (← c.self.view_is) at c.requires.entered in
    let sound = (sound_entered g.A.Actor.meaning v s.store s.opened.list s.spans.items s.called.items s.creators.items e refl c.self.invariant).0 in
    let calm : fault_of_moment g.A.Actor.meaning v.one v.moment (reports_now g.A.Actor.meaning v) ≡ None = rw (← c.self.view_is) at c.requires.calm in
    let kept : c.into_vec-reports.result.items ≡ map without_births (reports_now g.A.Actor.meaning v) =
    c.into_vec-reports.ensures ∙ (rw (← c.self.view_is) at c.requires.kept) in
    let gone : c.as_slice.result.now ≡ retired (reports_now g.A.Actor.meaning v) = c.as_slice.ensures ∙ (rw (← c.self.view_is) at c.requires.gone) in
    let born : c.into_vec.result.items ≡ born_now g.A.Actor.meaning v = c.into_vec.ensures ∙ (rw (← c.self.view_is) at c.requires.born) in
    let told : c.args.told ≡ map birth_letter (born_now g.A.Actor.meaning v) = rw (← c.self.view_is) at c.requires.told in
    let boxes : AreInboxesNow g.A.Actor.meaning v c.args.inboxes = rw (← c.self.view_is) at c.requires.inboxes in
    let all = closes g.A.Actor.meaning g.met.A.Actor.lawful v c.args.inboxes c.carry_out.new.directory c.admit.new.directory
    c.carry_out.new.states.items c.admit.new.states.items
    c.in_ok-self-inside.field-0.items c.put_called.new.called.items c.in_ok-self-inside-2.field-0.items c.admit.new.cast.items c.deliver.new.store
    c.saturating_add-self-inside.result
    c.in_ok-dead.dead c.into_vec-reports.result.items c.into_vec.result.items c.args.told c.as_slice.result.now sound.upright calm boxes (record {
      emptied = kept;
      bears = born;
      tells = told;
      leave = gone;
      states = c.in_ok-carry_out.ensures.states;
      directory = c.in_ok-carry_out.ensures.directory;
      placed = c.in_ok-self-inside.ensures.directory;
      joined = c.in_ok-self-inside.ensures.cast;
      all = c.in_ok-self-inside.ensures.states;
      ids = c.in_ok-self-inside.ensures.ids;
      lists = rw (c.deref.ensures.value, c.as_slice-2.ensures) at c.in_ok-dead.ensures.lists;
      unread = rw (c.deref.ensures.value, c.as_slice-2.ensures) at c.in_ok-dead.ensures.dead;
      ascending = c.in_ok-self-inside-2.ensures.ascending;
      creates = rw (c.deref-2.ensures.value, c.as_slice-3.ensures) at c.in_ok-self-inside-2.ensures.each;
      rising = c.in_ok-put_called.ensures.ascending;
      calls = rw (c.deref-3.ensures.value, c.deref-4.ensures.value, c.deref-5.ensures.value) at c.in_ok-put_called.ensures.each;
      count = c.saturating_add-self-inside.ensures;
    }) in
    rw (← c.self.view_is) all.unread
