use Rattle.std.proofs.Common.{◌<◌, ◌∙◌, Bool, false, List, length, ap, sym, arith}
use Rattle.quiet_core.specs.Account.{Account}
use Rattle.quiet_core.specs.Rows.{put}
use Rattle.quiet_core.specs.contracts.ledger.Ledger.{the_view}
use Rattle.quiet_core.proofs.Sums.{put_is_set}
use Rattle.quiet_core.proofs.ledger.Ledger.relieve.Goals as goal

pub returns : goal.returns
returns c =
    let node = c.args.node in
    let inside : node < length c.self.inside.duties = omega arith in
    ap (λ (row : List Bool). record (the_view c.self.inside) { duties = row }) (sym (put_is_set false c.self.inside.duties node false inside))
    ∙ ap (λ (a : Account). record a { duties = put false a.duties node false }) c.self.view_is
