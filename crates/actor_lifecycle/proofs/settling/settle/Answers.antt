use Rattle.std.proofs.Common.{◌≡◌, map, ap, arith, sym, ◌∙◌}
use Rattle.sim_model.specs.Births.{births_of_moment, next_after, without_births}
use Rattle.actor_lifecycle.proofs.Settled.{kept_whole, none_born, settled_calm}
use Rattle.actor_lifecycle.proofs.settling.settle.Goals.{then-count-eq0, else-count-eq0+in_ok-kept}
use Rattle.actor_lifecycle.proofs.settling.settle.Goals as goal

pub returns-clause-settled : goal.returns-clause-settled
returns-clause-settled g c =
    let m = g.A.Actor.meaning in
    let reports = c.args.reports in
    let next = c.args.next_id in
    let parts = c.if-count-eq0.kept in
    let born : (parts.0 ≡ map without_births reports) × (parts.1 ≡ births_of_moment m next reports) =
    elim c.if-count-eq0.branch [
      | then-count-eq0 w ↦
          let still : next_after next reports ≡ next = omega (arith, rw c.as_slice.ensures at c.in-Ok.ensures.count) in (
            ap (λ p. p.0) w.kept-is ∙ kept_whole m reports next still,
            ap (λ p. p.1) w.kept-is ∙ w.new.ensures ∙ sym (none_born m reports next still),
          )
      | else-count-eq0+in_ok-kept w ↦ (ap (λ p. p.0) w.kept-is ∙ w.in_ok-kept.ensures.kept, ap (λ p. p.1) w.kept-is ∙ w.in_ok-kept.ensures.born)
    ]
    in
    settled_calm m c.args.max_actors next c.args.now reports _ _ _ _ (rw c.as_slice.ensures at c.in-Ok.ensures.none)
    born.0 born.1 (rw c.as_slice-3.ensures at c.in_ok-letters.ensures)
    (rw c.as_slice-2.ensures at c.in_ok-retired.ensures)
