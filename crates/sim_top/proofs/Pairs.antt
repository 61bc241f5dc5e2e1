-- Options that are read one after the other.
use Rattle.std.proofs.Common.{◌≡◌, ℕ, ◌+◌, ◌<◌, List, ◌∷◌, drop, get_or, length, refl, ap, ◌∙◌, arith, drop-cons, Ok}
use native.Mathlib.Numerals.{unary_clauses}
use Rattle.sim_top.specs.Chosen.{ChosenParts}
use Rattle.sim_top.specs.Words.{choose, new_setting, options_from}
use Rattle.sim_top.specs.declared.forms.Options.{Options}
use Rattle.sim_top.specs.declared.options.Setting.{Setting}

next_word : (ws : List (List ℕ)) (at : ℕ) (w : List ℕ) → at < length ws → drop at ws ≡ get_or ws at w ∷ drop (at + 1) ws
next_word ws at w h = simp unary_clauses (drop-cons ws at w h)

-- an option and its value
pair_at : (ws : List (List ℕ)) (at : ℕ) (w v : List ℕ) → at + 1 < length ws → w ≡ get_or ws at w → v ≡ get_or ws (at + 1) v → drop at ws ≡ w ∷ v ∷ drop (at + 2) ws
pair_at ws at w v h is is2 =
    let first : drop at ws ≡ get_or ws at w ∷ drop (at + 1) ws = next_word ws at w (omega (arith, h)) in
    let two : at + 1 + 1 ≡ at + 2 = omega arith in
    let second : drop (at + 1) ws ≡ get_or ws (at + 1) v ∷ drop (at + 2) ws = next_word ws (at + 1) v h ∙ ap (λ n. get_or ws (at + 1) v ∷ drop n ws) two in
    rw (first, second, ← is, ← is2) refl

pub options_more : (taken : Options) (place : ℕ) (c : ChosenParts) (ws : List (List ℕ)) (at : ℕ) (w v : List ℕ) (o : Setting) (more : ChosenParts) → at + 1 < length ws
    → w ≡ get_or ws at w → v ≡ get_or ws (at + 1) v → new_setting taken place w c ≡ Ok o → choose o (place + 1) v c ≡ Ok more
    → options_from taken place c (drop at ws) ≡ options_from taken (place + 2) more (drop (at + 2) ws)
options_more taken place c ws at w v o more h is is2 new chosen = rw (pair_at ws at w v h is is2, new, chosen) refl
