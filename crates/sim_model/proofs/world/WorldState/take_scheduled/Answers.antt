use Rattle.std.proofs.Common.{◌≡◌, ◌∙◌, ◌++◌, OnOk, arith, false, nat_eq, subst, sym}
use Rattle.std.proofs.lemmas.Bool.Decides.{nat_tests}
use Rattle.sim_model.specs.Moment.{in_order_once, scheduled}
use Rattle.sim_model.proofs.Ascending.{from_increasing}
use Rattle.sim_model.proofs.Entering.{called_of, calls_at}
use Rattle.sim_model.proofs.world.WorldState.take_scheduled.Goals as goal

pub merge_ids-requires-clause-others : goal.merge_ids-requires-clause-others
merge_ids-requires-clause-others g c = from_increasing (λ a. a.0) c.recipients.result.now c.recipients.ensures.ascending

pub returns-then-at-ne0-clause-ids : goal.returns-then-at-ne0-clause-ids
returns-then-at-ne0-clause-ids g c =
    let later : nat_eq c.args.at.diasca 0 ≡ false = grind (arith, nat_tests, c.if-at-ne0.true) in
    let called = called_of c.args.self.now c.args.at c.args.inboxes.now c.recipients.result.now later c.requires.inboxes c.recipients.ensures.each in
    let merged : in_order_once (c.as_slice.result.now ++ c.recipients.result.now) ≡ scheduled c.args.self.now c.args.at =
    rw c.as_slice.ensures (called ∙ sym (calls_at c.args.self.now c.args.at later).scheduled) in
    subst (λ l. OnOk c.merge_ids.result (c.merge_ids.new.into.items ≡ c.args.ids.now.items ++ l)) merged c.merge_ids.ensures
