use Rattle.std.proofs.Common.{◌≡◌, ◌<◌, ◌∙◌, ℕ, Bool, List, length, ap, sym, cond, arith, eq-eqb}
use Rattle.quiet_core.specs.Account.{Account}
use Rattle.quiet_core.specs.Rows.{put}
use Rattle.quiet_core.specs.contracts.ledger.Ledger.{the_view}
use Rattle.quiet_core.proofs.Sums.{put_is_set}
use Rattle.quiet_core.proofs.ledger.Ledger.note_collect.Goals as goal

pub returns-then-found-eq0 : goal.returns-then-found-eq0
returns-then-found-eq0 c =
    let n = c.args.n in
    let a = c.args.self.now in
    let inside : n < length c.self.inside.collected = omega arith in
    let zero : c.args.found ≡ 0 = omega arith in
    ap (λ (row : List ℕ). record (the_view c.self.inside) { collected = row }) (sym (put_is_set 0 c.self.inside.collected n 1 inside))
    ∙ ap (λ (a : Account). record a { collected = put 0 a.collected n 1 }) c.self.view_is
    ∙ sym (ap (λ (b : Bool). cond b (record a { collected = put 0 a.collected n 1 }) a) (eq-eqb c.args.found 0 zero))
