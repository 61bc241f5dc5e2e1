use Rattle.std.proofs.Common.{ap, ◌∙◌, arith, get_or, false}
use Rattle.quiet_core.specs.Account.{Account, reported, mark, opened, owing, posts, has_met}
use Rattle.quiet_core.proofs.Untouched.{mark_apart}
use Rattle.quiet_core.proofs.Blank.{posts_none, met_none}
use Rattle.quiescence.specs.Rule.{Holding}
use Rattle.quiescence.proofs.Readers.{claimed_fresh, claimed_apart, raised_told, mark_posted, posted_sent}
use Rattle.quiet_tests.proofs.Trials.{claimed_alike, alike_then, alike_put, alike_post}
use Rattle.quiet_tests.proofs.running_round.to_nine.Goals as goal

pub raise-requires-clause-may : goal.raise-requires-clause-may
raise-requires-clause-may c =
    let three = c.requires.managers in
    let claim = c.in-Claimed-eq0.ensures.claim in
    let alike = claimed_alike c.args.round.now.shape _ _ _ _ claim in
    let weight = alike.weight ∙ ap (λ (h : Holding). h.account.weight) c.requires.new.0 in
    (omega arith, omega arith, claimed_fresh c.args.round.now.shape _ _ 0 _ _ claim c.in-Claimed-eq0.field-0-test, omega arith, omega arith)

pub post-requires-clause-may : goal.post-requires-clause-may
post-requires-clause-may c =
    let three = c.requires.managers in
    let claim = c.in-Claimed-eq0.ensures.claim in
    let alike = claimed_alike c.args.round.now.shape _ _ _ _ claim in
    let weight = ap (λ (a : Account). a.weight) c.raise.ensures.raised ∙ alike.weight ∙ ap (λ (h : Holding). h.account.weight) c.requires.new.0 in
    let is = raised_told 0 0 2 _ _ c.raise.ensures.raised in
    let owe = ap owing is in
    (omega arith, omega arith, omega arith, ap opened is, omega arith, omega arith)

pub done-requires-clause-may : goal.done-requires-clause-may
done-requires-clause-may c =
    let three = c.requires.managers in
    let claim = c.in-Claimed-eq0.ensures.claim in
    let alike = claimed_alike c.args.round.now.shape _ _ _ _ claim in
    let weight = (alike_post _ _ _ _ _ _ c.post.ensures.posted).weight ∙ ap (λ (a : Account). a.weight) c.raise.ensures.raised ∙ alike.weight ∙ ap (λ (h : Holding). h.account.weight) c.requires.new.0 in
    let told2 = ap owing (raised_told 0 0 2 _ _ c.raise.ensures.raised) in
    let is = mark_posted _ _ _ _ _ _ c.post.ensures.posted in
    let owe = ap owing is in
    (omega arith, omega arith, ap opened is, omega arith)

pub done-requires-2-clause-may : goal.done-requires-2-clause-may
done-requires-2-clause-may c =
    let t = c.args.round.now.shape in
    let three = c.requires.managers in
    let two = c.in-Claimed-eq0-claim.ensures.claim in
    let one = c.in-Claimed-eq1.ensures.claim in
    let alike = alike_then _ _ _ (claimed_alike t _ _ _ _ two) (claimed_alike t _ _ _ _ one) in
    let weight = alike.weight ∙ ap (λ (h : Holding). h.account.weight) c.requires.new.1 in
    let is = claimed_apart t 0 c.in-Claimed-eq1.field-0 2 0 _ _ one (λ e. omega arith) ∙ claimed_fresh t _ _ 0 _ _ two c.in-Claimed-eq0-claim.field-0-test in
    (omega arith, omega arith, ap opened is, ap owing is)

pub returns-in-Left-eq1 : goal.returns-in-Left-eq1
returns-in-Left-eq1 c _ =
    let t = c.args.round.now.shape in
    let new-x = c.requires.new.0 in
    let new-y = c.requires.new.1 in
    let zero = c.in-Claimed-eq0.ensures.claim in
    let two = c.in-Claimed-eq0-claim.ensures.claim in
    let one = c.in-Claimed-eq1.ensures.claim in
    let x = alike_then _ _ _ (alike_then _ _ _ (claimed_alike t _ _ _ _ zero) (alike_put _ _ _ _ _ c.raise.ensures.raised))
    (alike_then _ _ _ (alike_post _ _ _ _ _ _ c.post.ensures.posted) (alike_put _ c.done.new.hand.account 0 0 reported c.in-Left-eq3.ensures.done)) in
    let sent = ap (λ (a : Account). posts a 0 2) c.in-Left-eq3.ensures.done ∙ posted_sent _ _ _ _ _ _ c.post.ensures.posted in
    let before = ap (λ (a : Account). posts a 0 2) c.raise.ensures.raised ∙ ap (λ (a : Account). posts a 0 2) zero.2 ∙ ap (λ (h : Holding). posts h.account 0 2) new-x ∙ posts_none t 0 2 in
    let y = alike_then _ _ _ (claimed_alike t _ _ _ _ two) (claimed_alike t _ _ _ _ one) in
    let weight = ap (λ (a : Account). a.weight) c.in-Left-eq1.ensures.climbed ∙ ap (λ (a : Account). a.weight) c.in-Duty-eq4.ensures.climbed ∙ ap (λ (a : Account). a.weight) c.in-Duty-eq2.ensures.done in
    let marks = ap (λ (a : Account). mark a 0 1) c.in-Left-eq1.ensures.climbed ∙ ap (λ (a : Account). mark a 0 1) c.in-Duty-eq4.ensures.climbed ∙ ap (λ (a : Account). mark a 0 1) c.in-Duty-eq2.ensures.done in
    record {
      x_one = record { of = c.done.ensures.of; weight = x.weight ∙ ap (λ (h : Holding). h.account.weight) new-x };
      y_one = record { of = c.climb-2.ensures.of; weight = weight ∙ y.weight ∙ ap (λ (h : Holding). h.account.weight) new-y };
      claims = x.collecting ∙ ap (λ (h : Holding). h.account.collecting) new-x;
      not_met = ap (λ l. get_or l 0 false) x.exhausted ∙ ap (λ (h : Holding). has_met h.account 0) new-x ∙ met_none t 0;
      claimed = marks ∙ mark_apart c.claim-3.new.hand.account 2 0 0 1 reported (λ e. omega arith) ∙ claimed_fresh t _ _ 1 _ _ one c.in-Claimed-eq1.field-0-test;
      sent = omega arith;
    }
