use Rattle.std.proofs.Common.{◌≡◌, ◌<◌, true, ◌∙◌, length, ap, sym, subst, arith}
use Rattle.quiet_core.specs.Account.{Account, account}
use Rattle.quiet_core.specs.Step.{State}
use Rattle.quiet_core.specs.Quiet.{Quiet}
use Rattle.quiet_core.specs.Event.{Standing}
use Rattle.quiet_core.proofs.Allowed.{sits}
use Rattle.quiet_core.proofs.Quieted.{root_quiet}
use Rattle.quiet_core.proofs.round_core.Core.holds_root.Goals as goal

pub returns-clause-quiet : goal.returns-clause-quiet
returns-clause-quiet c e =
    let t = c.self.inside.frame in
    let s : State = record { words = c.self.inside.words.items; accounts = c.self.inside.accounts.accounts } in
    let h = c.args.hand in
    let n = c.self.invariant.2 in
    let known = subst (λ (v : Standing). h < v.shape.hands) (sym c.self.view_is) c.requires in
    let lh : h < length s.accounts = omega arith in
    let root : (account s.accounts h).at_root ≡ true = sym (c.at_root.ensures ∙ ap (λ (a : Account). a.at_root) c.ledger.ensures) ∙ e in
    subst (λ (v : Standing). Quiet v.shape.sched v.state.accounts) c.self.view_is (root_quiet t s h (account s.accounts h) c.self.invariant.0 (sits s.accounts h lh) root)
