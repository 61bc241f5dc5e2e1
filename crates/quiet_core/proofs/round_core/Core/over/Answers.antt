use Rattle.std.proofs.Common.{◌∙◌, List, length, ap, sym, subst}
use Rattle.quiet_core.specs.Account.{Account, blank}
use Rattle.quiet_core.specs.Balance.{Balance}
use Rattle.quiet_core.proofs.Opens.{hands_balance, hands_count}
use Rattle.quiet_core.proofs.round_core.Core.over.Goals as goal

pub invariant_of-result : goal.invariant_of-result
invariant_of-result c =
    let t = c.args.frame in
    let ws = c.in_ok-words.words.items in
    let o = c.in_ok-words.ensures in
    let is = c.in_ok-accounts.ensures.accounts in
    let one : Account = record (blank t) { weight = 1 } in (
      subst (λ (xs : List Account). Balance t record { words = ws; accounts = xs }) (sym is) (hands_balance t ws o),
      c.in_ok-accounts.ensures.sched,
      ap length is ∙ hands_count t ws o t.hands one,
    )
