use Rattle.std.proofs.Common.{rules, ◌∷◌, ◌++◌, List, [], sym, ap, ◌∙◌, arith}
use Rattle.quiet_core.specs.Account.{knows, posts}
use Rattle.quiescence.specs.Rule.{Holding}
use Rattle.quiescence.specs.Joint.{joint}
use Rattle.quiet_tests.specs.Trial.{One}
use Rattle.quiet_tests.proofs.Trials.{first_is, second_is, joint_posts}
use Rattle.quiet_tests.proofs.running_round.regroup_two.Goals as goal

pub collect_two-requires-clause-knows : goal.collect_two-requires-clause-knows
collect_two-requires-clause-knows c =
    let r = c.args.round in
    let d = c.in_ok-regroup.ensures.dealt in
    let three = c.requires.managers in
    let second = second_is _ _ _ _ _ (sym c.in-Some.ensures ∙ d.hands) c.requires.hands in
    let knew = ap (λ (h : Holding). knows h.account 0 2) second in
    let all = d.knows_all 0 2 (omega arith) (omega arith) in
    let items = c.in_ok-push-2.ensures.items ∙ ap (λ (l : List Holding). l ++ c.args.y ∷ []) (c.in_ok-push.ensures.items ∙ ap (λ (l : List Holding). l ++ c.args.x ∷ []) c.in_ok-hands.ensures.items) in
    let joined = ap (λ (l : List Holding). posts (joint l) 0 2) items in
    let both = joint_posts c.args.x.account c.args.y.account 0 2 in
    let sent = c.requires.eleven.sent in
    omega arith

pub unite-requires : goal.unite-requires
unite-requires c =
    let second : One c.args.round c.collect_two.new.hand = c.if-not-collect_two.ensures (search rules) in
    let first = first_is _ _ _ _ _ (sym c.in-Some.ensures ∙ c.in_ok-regroup.ensures.dealt.hands) in
    record { of = (ap (λ (h : Holding). h.round) first, second.of) }

pub finish-requires-clause-whole : goal.finish-requires-clause-whole
finish-requires-clause-whole c =
    let second : One c.args.round c.collect_two.new.hand = c.if-not-collect_two.ensures (search rules) in
    let first = first_is _ _ _ _ _ (sym c.in-Some.ensures ∙ c.in_ok-regroup.ensures.dealt.hands) in
    let two = c.requires.hands in
    let items = c.in_ok-push-3.ensures.items ∙ ap (λ (l : List Holding). l ++ c.unite.new.hand ∷ []) c.in_ok-all.ensures.items in
    let all = ap (λ (l : List Holding). (joint l).weight) items in
    let both = ap (λ (h : Holding). h.account.weight) c.unite.ensures.joined in
    let one = ap (λ (h : Holding). h.account.weight) first in
    let other = second.weight in
    omega arith
