use Rattle.std.proofs.Common.{map, sym, ap, ◌∙◌}
use Rattle.actor_lifecycle.specs.Settling.{settled_by}
use Rattle.sim_model.specs.Births.{without_births}
use Rattle.domain_tests.proofs.Gathering.{calm_of}
use Rattle.domain_tests.proofs.moments.close.Goals as goal

pub settle-requires-clause-ascending : goal.settle-requires-clause-ascending
settle-requires-clause-ascending g c = rw (c.of.ensures, c.in_ok-all.ensures.reports) c.in_ok-all.ensures.ascending

pub inboxes_of-requires-clause-kept : goal.inboxes_of-requires-clause-kept
inboxes_of-requires-clause-kept g c =
    let calm = calm_of g.A.Actor.meaning c.max_actors.result c.next_id.result c.now-at.result c.of.result c.in-Settled.kept c.in-Settled.born
    c.in-Settled.letters c.in-Settled.retired
    (sym c.in-Settled.is ∙ c.in_ok-actor.ensures.settled) in
    c.as_slice-in-Settled.ensures ∙ calm.emptied ∙ ap (map without_births) (c.of.ensures ∙ c.in_ok-all.ensures.reports)

pub inboxes_of-requires-clause-few : goal.inboxes_of-requires-clause-few
inboxes_of-requires-clause-few g c =
    let calm = calm_of g.A.Actor.meaning c.max_actors.result c.next_id.result c.now-at.result c.of.result c.in-Settled.kept c.in-Settled.born
    c.in-Settled.letters c.in-Settled.retired
    (sym c.in-Settled.is ∙ c.in_ok-actor.ensures.settled) in
    rw c.as_slice-in-Settled.ensures calm.few

pub close-requires-clause-calm : goal.close-requires-clause-calm
close-requires-clause-calm g c =
    let calm = calm_of g.A.Actor.meaning c.max_actors.result c.next_id.result c.now-at.result c.of.result c.in-Settled.kept c.in-Settled.born
    c.in-Settled.letters c.in-Settled.retired
    (sym c.in-Settled.is ∙ c.in_ok-actor.ensures.settled) in
    rw (c.max_actors.ensures, c.next_id.ensures.id, c.now-at.ensures, c.of.ensures, c.in_ok-all.ensures.reports) at calm.none

pub close-requires-clause-settled : goal.close-requires-clause-settled
close-requires-clause-settled g c =
    let calm = calm_of g.A.Actor.meaning c.max_actors.result c.next_id.result c.now-at.result c.of.result c.in-Settled.kept c.in-Settled.born
    c.in-Settled.letters c.in-Settled.retired
    (sym c.in-Settled.is ∙ c.in_ok-actor.ensures.settled) in
    rw (← c.next_id.ensures.id, ← c.in_ok-all.ensures.reports, ← c.of.ensures)
    (sym c.in-Settled.is ∙ c.in_ok-actor.ensures.settled ∙ ap (settled_by g.A.Actor.meaning c.next_id.result c.of.result) calm.none)
