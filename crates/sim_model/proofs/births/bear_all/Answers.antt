use Rattle.std.proofs.Common.{◌∙◌, ap, length, sym}
use Rattle.sim_model.specs.Births.{without_births}
use Rattle.sim_model.proofs.Lists.{mapped_over}
use Rattle.sim_model.proofs.births.bear_all.Goals as goal

pub returns-clause-kept : goal.returns-clause-kept
returns-clause-kept g c =
    let kept = rw c.deref_mut.ensures.value at c.in_ok-born.ensures.kept in
    let count = ap (λ l. length l) (sym c.deref_mut.ensures.value) ∙ c.deref_mut.ensures.len in
    c.of.ensures
    ∙ mapped_over without_births c.take_all_births.new.reports c.into_vec-kept.result.items c.args.reports _ kept count c.into_vec-kept.ensures

pub returns-clause-born : goal.returns-clause-born
returns-clause-born g c = c.of-2.ensures ∙ (rw (c.deref_mut.ensures.value, c.into_vec-kept.ensures) at c.in_ok-born.ensures.born)
