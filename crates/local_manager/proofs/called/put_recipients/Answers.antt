use Rattle.std.proofs.Common.{◌<◌, rules}
use Rattle.std.proofs.lemmas.Fn.{filter_same}
use Rattle.std.proofs.lemmas.List.Kept.{AllPairs-filter}
use Rattle.sim_base.specs.declared.ids.ActorId.{ActorId}
use Rattle.sim_model.specs.Moment.{is_alive}
use Rattle.sim_model.proofs.Ascending.{from_increasing}
use Rattle.local_manager.proofs.Creators.{recipients_are}
use Rattle.local_manager.proofs.called.put_recipients.Goals as goal

pub returns-clause-ascending : goal.returns-clause-ascending
returns-clause-ascending g c =
    let kept = filter_same _ (λ r. is_alive c.args.states.now r) _ (λ r b f s. search rules) _ _ c.retain.ensures.filtered in
    let all = rw c.clear.ensures.items at c.in_ok-extend_from_slice.ensures.items in
    rw (kept, all) (AllPairs-filter (λ (a b : ActorId). a.0 < b.0) (λ r. is_alive c.args.states.now r) c.recipients.result.now
    (from_increasing (λ (r : ActorId). r.0) c.recipients.result.now c.recipients.ensures.ascending))

pub returns-clause-each : goal.returns-clause-each
returns-clause-each g c =
    let kept = filter_same _ (λ r. is_alive c.args.states.now r) _ (λ r b f s. search rules) _ _ c.retain.ensures.filtered in
    let all = rw c.clear.ensures.items at c.in_ok-extend_from_slice.ensures.items in
    rw (kept, all) (λ id. recipients_are c.args.states.now c.args.inboxes.now c.recipients.result.now id c.recipients.ensures.each)
