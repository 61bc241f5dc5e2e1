use Rattle.std.proofs.Common.{◌∷◌, List, map, sym, refl, ap, ◌∙◌, Bor, Ok, ◌+◌, drop, ℕ}
use Rattle.std.proofs.lemmas.Result.{err_from_is_err_and}
use Rattle.sim_base.specs.declared.ids.ActorId.{ActorId}
use Rattle.scenario.specs.Answers.{◌>>=◌, place_of}
use Rattle.scenario.specs.Reading.{look_all}
use Rattle.scenario.proofs.Turns.{after-none, ended, no_text, refused_at, turn_at}
use Rattle.scenario.proofs.reading.look_all.Goals as goal

pub loop-text-init : goal.loop-text-init
loop-text-init c = rw c.in_ok-found.ensures.items (sym (after-none _))

pub returns-in_err-look : goal.returns-in_err-look
returns-in_err-look c =
    let p = err_from_is_err_and c.from_residual-in_err-look.result c.from_residual-in_err-look.ensures.1 in
    let all = λ (ts : List (Bor (List ℕ))). look_all c.args.pass c.args.names.now (place_of c.args.actor c.args.field.now) (map (λ t. t.now) ts) in
    let rest = all (drop (c.loop-text.text-index + 1) c.args.texts.now) in
    rw (p.1, p.2) (refused_at all c.args.texts.now c.loop-text.text-index no_text c.loop-text.found.items c.in_err-look.field-0.0 _ c.loop-text-test.true
    (ap (λ r. r >>= (λ a. rest >>= (λ more. Ok (a ∷ more)))) (sym c.in_err-look.ensures)) c.loop-text.invariant)

pub loop-text-preserved : goal.loop-text-preserved
loop-text-preserved c =
    let all = λ (ts : List (Bor (List ℕ))). look_all c.args.pass c.args.names.now (place_of c.args.actor c.args.field.now) (map (λ t. t.now) ts) in
    let rest = all (drop (c.loop-text.text-index + 1) c.args.texts.now) in
    rw c.in_ok-push.ensures.items (turn_at all c.args.texts.now c.loop-text.text-index no_text c.loop-text.found.items c.in_ok-look.field-0 rest _ c.loop-text-test.true
    (ap (λ r. r >>= (λ a. rest >>= (λ more. Ok (a ∷ more)))) (sym c.in_ok-look.ensures)) c.loop-text.invariant)

pub returns : goal.returns
returns c =
    let all = λ (ts : List (Bor (List ℕ))). look_all c.args.pass c.args.names.now (place_of c.args.actor c.args.field.now) (map (λ t. t.now) ts) in
    ended {X = Bor (List ℕ)} {A = ActorId} all c.args.texts.now c.loop-text.text-index c.loop-text.found.items _ c.loop-text-test.false refl c.loop-text.invariant ∙ ap Ok (sym c.of.ensures)
