use Rattle.std.proofs.Common.{◌≡◌, ◌<◌, ◌+◌, ℕ, List, length, get_or, take, arith, ap, ◌∙◌, add-one, cond, nat_lt, slice_set, length-append}
use Rattle.std.proofs.Common.{length-set, refl, Bool, true, false}
use Rattle.std.proofs.Math.Seq.{take-suc}
use Rattle.sim_base.specs.declared.ids.ActorId.{ActorId}
use Rattle.actor_trait.specs.InboxOrder.{in_order}
use Rattle.inbox_store.specs.Letters.{list_of}
use Rattle.local_manager.specs.declared.opened.Span.{Span}
use Rattle.local_manager.proofs.Opening.{drained_more, spans_after, still_ordered}
use Rattle.local_manager.proofs.opened.open_boxes.Goals as goal

pub open_box-requires-clause-ordered : goal.open_box-requires-clause-ordered
open_box-requires-clause-ordered c =
    still_ordered c.args.precedence.now c.args.creators.now (take c.loop-to.to-index c.args.called.now) c.args.store.now c.loop-to.store
    c.requires.ordered c.loop-to.invariant.left

same_length : (spans : List Span) (to : ActorId) (start end : ℕ) → length (spans_after spans to start end) ≡ length spans
same_length spans to start end = by (nat_lt start end)
  where
    by : (b : Bool) → length (cond b (slice_set spans to.0 (record { start = start; end = end })) spans) ≡ length spans
    by true = length-set spans to.0 (record { start = start; end = end })
    by false = refl

pub loop-to-preserved : goal.loop-to-preserved
loop-to-preserved c =
    let rs = take c.loop-to.to-index c.args.called.now in
    let to = get_or c.args.called.now c.loop-to.to-index (record { 0 = 0 }) in
    let more = take-suc c.args.called.now c.loop-to.to-index (record { 0 = 0 }) c.loop-to-test.true in
    let opened = c.loop-to.opened.list in
    let tail = in_order c.args.precedence.now (list_of c.loop-to.store to.0) in
    let fits : to.0 < length c.loop-to.spans = omega (
      arith,
      c.requires.called c.loop-to.to-index
          (record { 0 = 0 }) c.loop-to-test.true,
      c.loop-to.invariant.long,
    ) in
    let taken = c.in_ok-open_box.ensures.taken in
    let all = drained_more c.args.precedence.now c.args.store.now c.loop-to.store c.open_box.new.store rs to opened c.loop-to.spans c.requires.addressed
    (record { inboxes = c.loop-to.invariant.inboxes; left = c.loop-to.invariant.left; indexed = c.loop-to.invariant.indexed }) fits
    c.in_ok-open_box.ensures.left in
    let end : c.len-end.result ≡ length opened + length tail = c.len-end.ensures ∙ ap length taken ∙ length-append opened tail in
    let spans : c.keep_span.new.spans ≡ spans_after c.loop-to.spans to (length opened) (length opened + length tail) =
    rw (c.len-start.ensures, end) at c.keep_span.ensures in
    record {
      inboxes = rw (add-one, more, taken) all.inboxes;
      left = rw (add-one, more) all.left;
      indexed = rw (taken, spans) all.indexed;
      long = rw spans (same_length c.loop-to.spans to (length opened) (length opened + length tail)) ∙ c.loop-to.invariant.long;
    }
