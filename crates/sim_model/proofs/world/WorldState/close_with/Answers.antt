use Rattle.std.proofs.Common.{◌∙◌}
use Rattle.sim_model.proofs.Closed.{closed}
use Rattle.sim_model.proofs.world.WorldState.close_with.Goals as goal

pub close_agenda-requires : goal.close_agenda-requires
close_agenda-requires g c = rw c.deref.ensures.value c.requires.ascending

pub collect_letters-requires : goal.collect_letters-requires
collect_letters-requires g c = rw c.deref-2.ensures.value c.requires.sends

pub returns : goal.returns
returns g c =
    let all = rw (c.deref-2.ensures.value, c.deref-3.ensures.value) at c.in_ok-collect_letters.ensures in
    let sent = c.of-2.ensures ∙ (rw (c.as_slice.ensures, all) at c.keep_living-dead.ensures.kept) in
    let counted = rw (c.keep_living-dead.ensures.dead, c.as_slice.ensures, all) at c.saturating_add-self.ensures in
    let due = rw c.deref.ensures.value at c.in_ok-close_agenda.ensures in
    let named = c.of.ensures ∙ (rw c.deref-4.ensures.value at c.in_ok-ids_of.ensures) in
    let known = rw c.deref-5.ensures.value at c.in_ok-close_cast.ensures in
    closed g.A.Actor.meaning c.args.self.now c.args.kept.now.items c.args.born.items _ _ _ _ _ _ _ c.in_ok-close_states.ensures due sent named c.empty.ensures known counted
