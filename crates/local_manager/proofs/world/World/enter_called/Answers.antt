use Rattle.std.proofs.Common.{length, arith, refl}
use Rattle.local_manager.specs.Mail.{letters_in}
use Rattle.local_manager.specs.Views.{CanEnter, WorldParts}
use Rattle.local_manager.proofs.Entering.{called_fit, due_live, later_entered, later_ready, later_sound}
use Rattle.local_manager.proofs.world.World.enter_called.Goals as goal

pub open_all-requires-clause-called : goal.open_all-requires-clause-called
open_all-requires-clause-called g c =
    let s = c.self.inside in
    let v : WorldParts g.row.A.Denot = record {
      one = record {
        parameters = s.parameters;
        states = s.states.items;
        agenda = s.directory.agenda;
        letters = letters_in s.phase s.store
            s.opened.list;
        newborn = s.newborn.items;
        scheduled = s.directory.scheduled;
        cast = s.cast.items;
        dead_letters = s.dead_letters;
      };
      placed = s.directory.placed;
      policy = s.policy;
      moment = s.moment;
      phase = s.phase;
    } in
    let can : CanEnter v c.args.at = rw (← c.self.view_is) at c.requires.next in
    let ready = later_ready g.A.Actor.meaning v c.args.at s.store s.opened.list s.spans.items s.called.items s.creators.items refl c.self.invariant can
    c.requires.later in
    rw c.deref.ensures.value (called_fit s.states.items s.called.items (length c.grow_spans.new.spans.items)
    (omega (arith, c.in_ok-grow_spans.ensures, c.len.ensures, s.states.ok.0))
    (due_live g.A.Actor.meaning v c.args.at s.store s.called.items s.creators.items ready).live)

pub schedule-requires : goal.schedule-requires
schedule-requires g c =
    let s = c.self.inside in
    let v : WorldParts g.row.A.Denot = record {
      one = record {
        parameters = s.parameters;
        states = s.states.items;
        agenda = s.directory.agenda;
        letters = letters_in s.phase s.store
            s.opened.list;
        newborn = s.newborn.items;
        scheduled = s.directory.scheduled;
        cast = s.cast.items;
        dead_letters = s.dead_letters;
      };
      placed = s.directory.placed;
      policy = s.policy;
      moment = s.moment;
      phase = s.phase;
    } in
    let can : CanEnter v c.args.at = rw (← c.self.view_is) at c.requires.next in
    let ready = later_ready g.A.Actor.meaning v c.args.at s.store s.opened.list s.spans.items s.called.items s.creators.items refl c.self.invariant can
    c.requires.later in
    rw c.deref-3.ensures.value (due_live g.A.Actor.meaning v c.args.at s.store s.called.items s.creators.items ready).ascend

pub invariant_of-self-2 : goal.invariant_of-self-2
invariant_of-self-2 g c =
    let s = c.self.inside in
    let v : WorldParts g.row.A.Denot = record {
      one = record {
        parameters = s.parameters;
        states = s.states.items;
        agenda = s.directory.agenda;
        letters = letters_in s.phase s.store
            s.opened.list;
        newborn = s.newborn.items;
        scheduled = s.directory.scheduled;
        cast = s.cast.items;
        dead_letters = s.dead_letters;
      };
      placed = s.directory.placed;
      policy = s.policy;
      moment = s.moment;
      phase = s.phase;
    } in
    let can : CanEnter v c.args.at = rw (← c.self.view_is) at c.requires.next in
    let ready = later_ready g.A.Actor.meaning v c.args.at s.store s.opened.list s.spans.items s.called.items s.creators.items refl c.self.invariant can
    c.requires.later in
    let got = rw (c.deref.ensures.value, c.as_slice.ensures) at c.in_ok-open_all.ensures.inboxes in
    let left = rw c.deref.ensures.value at c.in_ok-open_all.ensures.left in
    rw (c.in_ok-schedule.ensures.ok, c.deref-3.ensures.value)
    (later_sound g.A.Actor.meaning v c.args.at s.store c.open_all.new.store c.open_all.new.opened.list c.open_all.new.spans.items s.called.items
    s.creators.items ready c.requires.later got left
    c.in_ok-open_all.ensures.indexed)

pub returns-clause-entered : goal.returns-clause-entered
returns-clause-entered g c =
    let s = c.self.inside in
    let v : WorldParts g.row.A.Denot = record {
      one = record {
        parameters = s.parameters;
        states = s.states.items;
        agenda = s.directory.agenda;
        letters = letters_in s.phase s.store
            s.opened.list;
        newborn = s.newborn.items;
        scheduled = s.directory.scheduled;
        cast = s.cast.items;
        dead_letters = s.dead_letters;
      };
      placed = s.directory.placed;
      policy = s.policy;
      moment = s.moment;
      phase = s.phase;
    } in
    let can : CanEnter v c.args.at = rw (← c.self.view_is) at c.requires.next in
    let ready = later_ready g.A.Actor.meaning v c.args.at s.store s.opened.list s.spans.items s.called.items s.creators.items refl c.self.invariant can
    c.requires.later in
    let got = rw (c.deref.ensures.value, c.as_slice.ensures) at c.in_ok-open_all.ensures.inboxes in
    let left = rw c.deref.ensures.value at c.in_ok-open_all.ensures.left in
    rw (← c.self.view_is, c.in_ok-schedule.ensures.ok, c.deref-3.ensures.value)
    (later_entered g.A.Actor.meaning v c.args.at s.store c.open_all.new.store c.open_all.new.opened.list s.called.items s.creators.items ready
    c.requires.later got left)
