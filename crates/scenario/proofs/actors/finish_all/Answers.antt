use Rattle.sim_model.specs.declared.setup.Start.{Start}
use Rattle.scenario.specs.declared.any_actor.AnyActor.{AnyActor}
use Rattle.std.proofs.Common.{ℕ, List, [], ◌∷◌, ◌++◌, get_or, ◌+◌, ap, sym, ◌∙◌, Ok, arith, refl}
use Rattle.std.proofs.lemmas.Result.{err_from_is_err_and}
use Rattle.scenario.proofs.Turns.{after-none}
use Rattle.scenario.proofs.ActorTurns.{start_read, start_refused, starts_read}
use Rattle.scenario.proofs.actors.finish_all.Goals as goal

pub loop-value-init : goal.loop-value-init
loop-value-init c = record { at = refl; so_far = rw c.in_ok-starts.ensures.items (sym (after-none _)) }

pub returns-in_err-state : goal.returns-in_err-state
returns-in_err-state c =
    let p = err_from_is_err_and c.from_residual-in_err-state.result c.from_residual-in_err-state.ensures.1 in
    rw (p.1, p.2) (start_refused c.args.names.now c.args.names.now (c.loop-value.at + 1) c.args.values.now c.loop-value.value-index c.value-item.result c.loop-value.starts.items c.in_err-state.field-0.0 _
    c.loop-value-test.true (omega (arith, c.requires.len, c.loop-value-test.true)) c.value-item.is c.in_err-state.ensures c.loop-value.invariant.so_far)

pub loop-value-preserved : goal.loop-value-preserved
loop-value-preserved c =
    let name = c.at-name.ensures ∙ ap (λ k. get_or c.args.names.now k []) c.loop-value.invariant.at in
    let started : List ℕ → Start AnyActor = λ name. record { name = name; state = c.in_ok-state.state } in
    let longer = c.in_ok-push.ensures.items ∙ ap (λ n. c.loop-value.starts.items ++ started n ∷ []) name in
    record {
      at = omega (arith, c.loop-value.invariant.at);
      so_far = rw longer (start_read c.args.names.now c.args.names.now (c.loop-value.at + 1) c.args.values.now c.loop-value.value-index c.value-item.result c.loop-value.starts.items c.in_ok-state.state _
          c.loop-value-test.true (omega (arith, c.requires.len, c.loop-value-test.true)) c.value-item.is c.in_ok-state.ensures c.loop-value.invariant.so_far);
    }

pub returns : goal.returns
returns c = starts_read c.args.names.now c.args.names.now (c.loop-value.at + 1) c.args.values.now c.loop-value.value-index _ _ c.loop-value-test.false c.loop-value.invariant.so_far ∙ ap Ok (sym c.of.ensures)
