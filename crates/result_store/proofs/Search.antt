-- The turns of the search for a cut.
use Rattle.std.proofs.Common.{◌≡◌, ◌≢◌, ℕ, zero, suc, ◌+◌, ◌-◌, ◌<◌, ◌≤◌, List, [], ◌∷◌, length, drop, get_or, true, ◌==◌, ◌⊎◌, inl, inr, ◌↔◌, sym, ap, ◌∙◌, subst, arith}
use Rattle.std.proofs.lemmas.List.{drop_more, drop_all, drop-drop, get_or-drop, length-drop}
use Rattle.std.specs.List.{list_all}
use Rattle.result_store.specs.Patterns.{star}
use Rattle.result_store.proofs.Parts.{Matches}
use Rattle.result_store.proofs.Cuts.{literal_step, literal_fails, star_takes, star_from, segment, stars_match, match_stars, Later}

-- the rest of the pattern matches the rest of the text, or the last star takes more
abbrev pub Whole : List ℕ → List ℕ → ℕ → ℕ → ℕ → ℕ → Type 0
Whole p t at read after taken = Matches (drop at p) (drop read t) ⊎ Later p t after taken

abbrev Plain : List ℕ → ℕ → ℕ → Type 0
Plain p after at = (j : ℕ) → after ≤ j → j < at → get_or p j 0 ≢ star

-- at a star, matching further on is matching here
here_from : (p t : List ℕ) (at read k : ℕ) → at < length p → get_or p at 0 ≡ star → read ≤ k → Matches (drop (at + 1) p) (drop k t) → Matches (drop at p) (drop read t)
here_from p t at read k within is_star later m =
    let e : k ≡ read + (k - read) = omega arith in
    let moved : drop (k - read) (drop read t) ≡ drop k t = drop-drop (k - read) read t ∙ ap (λ n. drop n t) (sym e) in
    let m2 : Matches (drop (at + 1) p) (drop (k - read) (drop read t)) = subst (Matches (drop (at + 1) p)) (sym moved) m in
    let shape : drop at p ≡ star ∷ drop (at + 1) p = drop_more p at 0 within ∙ ap (λ b. b ∷ drop (at + 1) p) is_star in
    subst (λ (q : List ℕ). Matches q (drop read t)) (sym shape) (star_from (drop (at + 1) p) (drop read t) (k - read) m2)

-- what a star here takes
here_takes : (p t : List ℕ) (at read : ℕ) → at < length p → get_or p at 0 ≡ star → Matches (drop at p) (drop read t) → (k : ℕ) × (k ≤ length (drop read t)) × Matches (drop (at + 1) p) (drop (read + k) t)
here_takes p t at read within is_star m =
    let shape : drop at p ≡ star ∷ drop (at + 1) p = drop_more p at 0 within ∙ ap (λ b. b ∷ drop (at + 1) p) is_star in
    let r = star_takes (drop (at + 1) p) (drop read t) (subst (λ (q : List ℕ). Matches q (drop read t)) shape m) in
    (r.0, r.1, subst (Matches (drop (at + 1) p)) (drop-drop r.0 read t) r.2)

-- the text behind the plain bytes since the last star
moved_on : (p t : List ℕ) (at after k : ℕ) → after ≤ at → at ≤ length p → Plain p after at → Matches (drop after p) (drop k t) → (at - after ≤ length (drop k t)) × Matches (drop at p) (drop (k + (at - after)) t)
moved_on p t at after k behind within plain m =
    let fits : at - after ≤ length (drop after p) = omega (arith, length-drop after p) in
    let bytes = λ (j : ℕ) (h : j < at - after). λ (same : get_or (drop after p) j 0 ≡ star). plain (after + j) (omega arith) (omega arith) (sym (get_or-drop after p j 0) ∙ same) in
    let r = segment (at - after) (drop after p) (drop k t) fits bytes m in
    let e : after + (at - after) ≡ at = omega arith in
    (r.0, subst (λ (q : List ℕ). Matches q (drop (k + (at - after)) t)) (drop-drop (at - after) after p ∙ ap (λ n. drop n p) e) (subst (Matches (drop (at - after) (drop after p))) (drop-drop (at - after) k t) r.1))

-- a longer star before makes no odds at a star
absorbed : (p t : List ℕ) (at read after taken : ℕ) → at < length p → get_or p at 0 ≡ star → after ≤ at → read + after ≡ taken + at → Plain p after at
    → Later p t after taken → Matches (drop at p) (drop read t)
absorbed p t at read after taken within is_star behind aligned plain later =
    let r = moved_on p t at after later.0 behind (omega arith) plain later.4 in
    let far = here_takes p t at (later.0 + (at - after)) within is_star r.1 in
    here_from p t at read (later.0 + (at - after) + far.0) within is_star (omega (arith, later.2)) far.2

split : (p t : List ℕ) (at read k : ℕ) → read + k ≤ length t → Matches (drop (at + 1) p) (drop (read + k) t) → Whole p t (at + 1) read (at + 1) read
split p t at read zero fits m = let none : read + 0 ≡ read = omega arith in inl (subst (λ n. Matches (drop (at + 1) p) (drop n t)) none m)
split p t at read (suc k) fits m = inr (read + suc k, omega arith, omega arith, fits, m)

pub star_turn : (p t : List ℕ) (at read after taken : ℕ) → at < length p → get_or p at 0 ≡ star → read < length t → after ≤ at → read + after ≡ taken + at → Plain p after at
    → Whole p t at read after taken ↔ Whole p t (at + 1) read (at + 1) read
star_turn p t at read after taken within is_star in_text behind aligned plain =
    let forth = λ (m : Matches (drop at p) (drop read t)). let r = here_takes p t at read within is_star m in split p t at read r.0 (omega (arith, r.1, length-drop read t)) r.2 in (
      λ w. elim w [ inl m ↦ forth m | inr later ↦ forth (absorbed p t at read after taken within is_star behind aligned plain later) ],
      λ w. elim w [ inl m ↦ inl (here_from p t at read read within is_star (omega arith) m) | inr later ↦ inl (here_from p t at read later.0 within is_star (omega (arith, later.2)) later.4) ],
    )

pub same_turn : (p t : List ℕ) (at read after taken : ℕ) → at < length p → get_or p at 0 ≢ star → get_or p at 0 ≡ get_or t read 0 → read < length t
    → Whole p t at read after taken ↔ Whole p t (at + 1) (read + 1) after taken
same_turn p t at read after taken within plain same in_text =
    let step = literal_step (get_or p at 0) (get_or t read 0) (drop (at + 1) p) (drop (read + 1) t) plain same in
    let q = drop_more p at 0 within in
    let u = drop_more t read 0 in_text in (
      λ w. elim w [ inl m ↦ inl (step.0 (subst (Matches (get_or p at 0 ∷ drop (at + 1) p)) u (subst (λ (q : List ℕ). Matches q (drop read t)) q m))) | inr later ↦ inr later ],
      λ w. elim w [ inl m ↦ inl (subst (λ (q : List ℕ). Matches q (drop read t)) (sym q) (subst (Matches (get_or p at 0 ∷ drop (at + 1) p)) (sym u) (step.1 m))) | inr later ↦ inr later ],
    )

abbrev pub IsApart : List ℕ → List ℕ → ℕ → ℕ → Type 0
IsApart p t at read = (length p ≤ at) ⊎ ((at < length p) × (get_or p at 0 ≢ star) × (get_or p at 0 ≢ get_or t read 0))

no_more : (c : ℕ) (t : List ℕ) → c ∷ t ≡ [] → ⊥
no_more c t e = cc

pub fails : (p t : List ℕ) (at read : ℕ) → read < length t → IsApart p t at read → Matches (drop at p) (drop read t) → ⊥
fails p t at read in_text (inl past) m =
    let u = drop_more t read 0 in_text in
    no_more _ _ (sym u ∙ subst (λ (q : List ℕ). Matches q (drop read t)) (drop_all at p past) m)
fails p t at read in_text (inr other) m =
    literal_fails _ _ _ _ other.1 other.2 (subst (Matches (get_or p at 0 ∷ drop (at + 1) p)) (drop_more t read 0 in_text) (subst (λ (q : List ℕ). Matches q (drop read t)) (drop_more p at 0 other.0) m))

or_later : (p t : List ℕ) (after taken k : ℕ) → 0 < after → (taken + 1 ≡ k) ⊎ (taken + 1 < k) → k ≤ length t → Matches (drop after p) (drop k t) → Whole p t after (taken + 1) after (taken + 1)
or_later p t after taken k some (inl same) fits m = inl (subst (λ k. Matches (drop after p) (drop k t)) (sym same) m)
or_later p t after taken k some (inr more) fits m = inr (k, some, more, fits, m)

next_or_later : (taken k : ℕ) → taken < k → (taken + 1 ≡ k) ⊎ (taken + 1 < k)
next_or_later taken k h = grind arith

pub back_turn : (p t : List ℕ) (at read after taken : ℕ) → read < length t → IsApart p t at read → 0 < after → taken + 1 ≤ length t
    → Whole p t at read after taken ↔ Whole p t after (taken + 1) after (taken + 1)
back_turn p t at read after taken in_text apart some fits = (
  λ w. elim w [ inl m ↦ absurd (fails p t at read in_text apart m) | inr later ↦ or_later p t after taken later.0 some (next_or_later taken later.0 later.2) later.3 later.4 ],
  λ w. elim w [ inl m ↦ inr (taken + 1, some, omega arith, fits, m) | inr later ↦ inr (later.0, some, omega (arith, later.2), later.3, later.4) ],
)

pub no_turn : (p t : List ℕ) (at read after taken : ℕ) → read < length t → IsApart p t at read → after ≡ 0 → Whole p t at read after taken → ⊥
no_turn p t at read after taken in_text apart none (inl m) = fails p t at read in_text apart m
no_turn p t at read after taken in_text apart none (inr later) = absurd (omega (arith, later.1))

pub last_turn : (p t : List ℕ) (at read after taken : ℕ) → length t ≤ read → read ≤ length t → at ≤ length p → after ≤ at → read + after ≡ taken + at → Plain p after at
    → Whole p t at read after taken ↔ (list_all (λ b. b == star) (drop at p) ≡ true)
last_turn p t at read after taken over in_text within behind aligned plain =
    let none = drop_all read t over in (
      λ w. elim w [
        | inl m ↦ match_stars (drop at p) (subst (Matches (drop at p)) none m)
        | inr later ↦ let r = moved_on p t at after later.0 behind within plain later.4 in absurd (omega (arith, r.0, length-drop later.0 t, later.2, later.3))
      ],
      λ h. inl (subst (Matches (drop at p)) (sym none) (stars_match (drop at p) h)),
    )

pub along : {A B C : Type 0} → (A ↔ B) → (B ↔ C) → A ↔ C
along f g = (λ a. g.0 (f.0 a), λ c. f.1 (g.1 c))
