use Rattle.std.proofs.Common.{◌≡◌, ◌∙◌, OnOk, ap, length, refl, subst, sym}
use Rattle.sim_model.specs.Births.{without_births}
use Rattle.sim_model.proofs.Closed.{ascend_kept, closed_kept, sends_kept}
use Rattle.sim_model.proofs.Lists.{mapped_over}
use Rattle.sim_model.proofs.world.WorldState.close.Goals as goal

pub close_with-requires-clause-ascending : goal.close_with-requires-clause-ascending
close_with-requires-clause-ascending g c =
    let count = ap (λ l. length l) (sym c.deref_mut.ensures.value) ∙ c.deref_mut.ensures.len in
    let emptied = rw c.deref_mut.ensures.value at c.in_ok-born.ensures.kept in
    let kept = mapped_over without_births c.take_all_births.new.reports c.args.reports.now.items c.args.reports.now.items _ emptied count refl in
    ascend_kept c.args.reports.now.items _ kept c.requires.ascending

pub close_with-requires-clause-sends : goal.close_with-requires-clause-sends
close_with-requires-clause-sends g c =
    let count = ap (λ l. length l) (sym c.deref_mut.ensures.value) ∙ c.deref_mut.ensures.len in
    let emptied = rw c.deref_mut.ensures.value at c.in_ok-born.ensures.kept in
    let kept = mapped_over without_births c.take_all_births.new.reports c.args.reports.now.items c.args.reports.now.items _ emptied count refl in
    sends_kept c.args.reports.now.items _ kept c.requires.sends

pub returns : goal.returns
returns g c =
    let count = ap (λ l. length l) (sym c.deref_mut.ensures.value) ∙ c.deref_mut.ensures.len in
    let emptied = rw c.deref_mut.ensures.value at c.in_ok-born.ensures.kept in
    let kept = mapped_over without_births c.take_all_births.new.reports c.args.reports.now.items c.args.reports.now.items _ emptied count refl in
    let born = rw c.deref_mut.ensures.value at c.in_ok-born.ensures.born in
    subst (λ w. OnOk c.close_with.result (c.close_with.new.self ≡ w))
    (closed_kept g.A.Actor.meaning c.args.self.now c.args.reports.now.items _ c.in_ok-born.born.items c.next_id-next.result
    kept born c.next_id-next.ensures)
    c.close_with.ensures
