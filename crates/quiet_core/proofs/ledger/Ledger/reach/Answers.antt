use Rattle.std.proofs.Common.{◌≡◌, ◌<◌, ◌∙◌, Bool, true, false, List, length, ap, sym, arith}
use Rattle.quiet_core.specs.Account.{Account, root}
use Rattle.quiet_core.specs.Rows.{put}
use Rattle.quiet_core.specs.contracts.ledger.Ledger.{the_view}
use Rattle.quiet_core.proofs.Sums.{put_is_set}
use Rattle.std.proofs.Common.{◌≢◌}
use Rattle.quiet_core.proofs.Reached.{reached_duty}
use Rattle.quiet_core.proofs.ledger.Ledger.reach.Goals as goal

pub returns-else-node-root : goal.returns-else-node-root
returns-else-node-root c =
    let node = c.args.node in
    let t = c.args.frame.now in
    let a = c.args.self.now in
    let inside : node < length c.self.inside.duties = omega arith in
    let zero : c.args.left ≡ 0 = omega arith in
    let is = c.root.ensures in
    let apart : node ≢ root t = λ e. c.if-node-root.false (e ∙ sym is) in
    ap (λ (row : List Bool). record (the_view c.self.inside) { duties = row }) (sym (put_is_set false c.self.inside.duties node true inside))
    ∙ ap (λ (a : Account). record a { duties = put false a.duties node true }) c.self.view_is
    ∙ sym (reached_duty t node c.args.left a zero apart)
