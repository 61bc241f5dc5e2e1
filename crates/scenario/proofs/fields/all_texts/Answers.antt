use Rattle.std.proofs.Common.{ℕ, List, map, ap, ◌∙◌, Bor}
use Rattle.std.proofs.lemmas.List.{map-append}
use Rattle.scenario.proofs.Turns.{before-none, text_read, text_refused, texts_done}
use Rattle.scenario.proofs.fields.all_texts.Goals as goal

pub loop-value-init : goal.loop-value-init
loop-value-init c = rw c.in_ok-texts.ensures.items (before-none _)

pub returns-in_default : goal.returns-in_default
returns-in_default c = text_refused c.args.values.now c.loop-value.value-index c.value-item.result _ _ c.loop-value-test.true c.value-item.is c.in_default.ensures c.loop-value.invariant

pub loop-value-preserved : goal.loop-value-preserved
loop-value-preserved c =
    let longer = ap (map (λ (t : Bor (List ℕ)). t.now)) c.in_ok-push.ensures.items ∙ map-append (λ (t : Bor (List ℕ)). t.now) c.loop-value.texts.items _ in
    rw longer (text_read c.args.values.now c.loop-value.value-index c.value-item.result _ _ _ c.loop-value-test.true c.value-item.is c.in-Some.ensures c.loop-value.invariant)

pub returns : goal.returns
returns c = texts_done c.args.values.now c.loop-value.value-index _ _ c.loop-value-test.false c.loop-value.invariant
