use Rattle.std.proofs.Common.{[], ◌∷◌, length, ap, sym, ◌∙◌, arith, refl}
use Rattle.std.proofs.lemmas.List.{length-append}
use Rattle.std.proofs.lemmas.Result.{err_from_is_err_and}
use Rattle.scenario.proofs.Turns.{after-none}
use Rattle.scenario.proofs.ActorTurns.{name_read, name_refused, names_read}
use Rattle.scenario.proofs.actors.check_all.Goals as goal

pub loop-value-init : goal.loop-value-init
loop-value-init c = record {
  id = refl;
  len = ap length c.new-names.ensures;
  so_far = rw c.new-names.ensures (sym (after-none _));
}

pub returns-in_err-text-clause-value : goal.returns-in_err-text-clause-value
returns-in_err-text-clause-value c =
    let p = err_from_is_err_and c.from_residual.result c.from_residual.ensures.1 in
    rw (p.1, p.2) (name_refused c.loop-value.names c.loop-value.id c.args.values.now c.loop-value.value-index c.value-item.result c.loop-value.names c.in_err-text.field-0.0 _
    c.loop-value-test.true c.value-item.is c.in_err-text.ensures.value c.loop-value.invariant.so_far)

pub loop-value-preserved : goal.loop-value-preserved
loop-value-preserved c =
    let longer = c.in_ok-names.ensures in
    record {
      id = omega arith;
      len = ap length longer ∙ omega (arith, c.loop-value.invariant.len, length-append c.loop-value.names (c.in_ok-text.name ∷ []));
      so_far = rw longer (name_read c.loop-value.names c.loop-value.id c.args.values.now c.loop-value.value-index c.value-item.result c.loop-value.names c.in_ok-text.name _
          c.loop-value-test.true c.value-item.is c.in_ok-text.ensures.value c.loop-value.invariant.so_far);
    }

pub returns-clause-value : goal.returns-clause-value
returns-clause-value c = names_read c.loop-value.names c.loop-value.id c.args.values.now c.loop-value.value-index _ _ c.loop-value-test.false c.loop-value.invariant.so_far
