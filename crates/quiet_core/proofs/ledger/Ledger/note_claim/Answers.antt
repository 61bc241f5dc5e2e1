use Rattle.std.proofs.Common.{◌<◌, ◌∙◌, Bool, true, false, List, length, ap, sym, cond, arith}
use Rattle.quiet_core.specs.Account.{Account, scheduled}
use Rattle.quiet_core.specs.Rows.{put}
use Rattle.quiet_core.specs.contracts.ledger.Ledger.{the_view}
use Rattle.quiet_core.proofs.Sums.{put_is_set}
use Rattle.std.proofs.Common.{◌≤◌}
use Rattle.quiet_core.proofs.Untouched.{ge_ltb}
use Rattle.quiet_core.proofs.ledger.Ledger.note_claim.Goals as goal

pub returns-then-found-scheduled : goal.returns-then-found-scheduled
returns-then-found-scheduled c =
    let m = c.args.m in
    let t = c.args.frame.now in
    let a = c.args.self.now in
    let few = c.requires.sized.few_managers in
    let known = c.requires.manager in
    let inside : m < length c.self.inside.exhausted = omega arith in
    let is = c.scheduled.ensures in
    let past : scheduled t m ≤ c.args.found = omega arith in
    ap (λ (row : List Bool). record (the_view c.self.inside) { exhausted = row }) (sym (put_is_set false c.self.inside.exhausted m true inside))
    ∙ ap (λ (a : Account). record a { exhausted = put false a.exhausted m true }) c.self.view_is
    ∙ sym (ap (λ (b : Bool). cond b a (record a { exhausted = put false a.exhausted m true })) (ge_ltb c.args.found (scheduled t m) past))
