-- A match as a cut into parts, in place of a test over all cuts.
use Rattle.std.proofs.Common.{◌≡◌, ◌≢◌, ℕ, ◌==◌, Bool, true, false, ◌&&◌, ◌||◌, List, [], ◌∷◌, ◌++◌, map, ◌⊎◌, inl, inr, ◌↔◌, bytes_eq, refl, sym, ap, ◌∙◌, true≢false}
use Rattle.std.specs.List.{list_any}
use Rattle.std.proofs.lemmas.Bool.{and_parts, eqb-true, eq-eqb}
use Rattle.std.proofs.lemmas.Slice.Eq.{bytes_eq-Decides}
use Rattle.result_store.specs.Patterns.{star, is_part, Cut, longer, cuts, matches}

-- a part that a byte of the pattern matches
abbrev pub IsPart : ℕ → List ℕ → Type 0
IsPart b part = b ≢ star → part ≡ b ∷ []

abbrev pub Matches : List ℕ → List ℕ → Type 0
Matches [] text = text ≡ []
Matches (b ∷ pattern) text = (part : List ℕ) × (rest : List ℕ) × (text ≡ part ++ rest) × IsPart b part × Matches pattern rest

or_cases : (a b : Bool) → (a || b) ≡ true → (a ≡ true) ⊎ (b ≡ true)
or_cases true b h = inl refl
or_cases false b h = inr h

part_from : (b : ℕ) (part : List ℕ) → is_part b part ≡ true → IsPart b part
part_from b part h apart = elim (or_cases (b == star) (bytes_eq part (b ∷ [])) h) [
  | inl same ↦ absurd (apart (eqb-true b star same))
  | inr only ↦ (bytes_eq-Decides part (b ∷ [])).0 only
]

part_to : (b : ℕ) (part : List ℕ) → IsPart b part → is_part b part ≡ true
part_to b part h = here (b == star) refl
  where
    here : (x : Bool) → (b == star) ≡ x → ((b == star) || bytes_eq part (b ∷ [])) ≡ true
    here true e = rw e refl
    here false e = rw e ((bytes_eq-Decides part (b ∷ [])).1 (h (λ same. true≢false (sym (eq-eqb b star same) ∙ e))))

-- some cut passes a test
abbrev SomeCut : (List ℕ → List ℕ → Bool) → List ℕ → Type 0
SomeCut f text = (part : List ℕ) × (rest : List ℕ) × (text ≡ part ++ rest) × (f part rest ≡ true)

any_map : (f : Cut → Bool) (c : ℕ) (cs : List Cut) → list_any f (map (longer c) cs) ≡ list_any (λ cut. f (longer c cut)) cs
any_map f c [] = refl
any_map f c (cut ∷ cs) = ap (λ b. f (longer c cut) || b) (any_map f c cs)

cut_from : (f : List ℕ → List ℕ → Bool) (text : List ℕ) → list_any (λ cut. f cut.front cut.rest) (cuts text) ≡ true → SomeCut f text
cut_from f [] h = elim (or_cases (f [] []) false h) [ inl here ↦ ([], [], refl, here) | inr none ↦ absurd (true≢false (sym none)) ]
cut_from f (c ∷ text) h = elim (or_cases (f [] (c ∷ text)) _ h) [
  | inl here ↦ ([], c ∷ text, refl, here)
  | inr more ↦ let r = cut_from (λ part rest. f (c ∷ part) rest) text (sym (any_map (λ cut. f cut.front cut.rest) c (cuts text)) ∙ more) in (c ∷ r.0, r.1, ap (λ t. c ∷ t) r.2, r.3)
]

or_left : (a b : Bool) → a ≡ true → (a || b) ≡ true
or_left a b h = rw h refl

or_right : (a b : Bool) → b ≡ true → (a || b) ≡ true
or_right true b h = refl
or_right false b h = h

cut_to : (f : List ℕ → List ℕ → Bool) (text part rest : List ℕ) → text ≡ part ++ rest → f part rest ≡ true → list_any (λ cut. f cut.front cut.rest) (cuts text) ≡ true
cut_to f [] [] rest e h = or_left (f [] []) false (ap (f []) e ∙ h)
cut_to f [] (c ∷ part) rest e h = absurd (cc)
cut_to f (c ∷ text) [] rest e h = or_left (f [] (c ∷ text)) _ (ap (f []) e ∙ h)
cut_to f (c ∷ text) (d ∷ part) rest e h =
    let first : d ≡ c = cc in
    let more : text ≡ part ++ rest = cc in
    or_right (f [] (c ∷ text)) _ (any_map (λ cut. f cut.front cut.rest) c (cuts text) ∙ cut_to (λ part rest. f (c ∷ part) rest) text part rest more (ap (λ x. f (x ∷ part) rest) (sym first) ∙ h))

pub matches-from : (pattern text : List ℕ) → matches pattern text ≡ true → Matches pattern text
unfolding matches
matches-from [] text h = (bytes_eq-Decides text []).0 h
matches-from (b ∷ pattern) text h =
    let r = cut_from (λ part rest. is_part b part && matches pattern rest) text h in
    let both = and_parts (is_part b r.0) (matches pattern r.1) r.3 in
    (r.0, r.1, r.2, part_from b r.0 both.0, matches-from pattern r.1 both.1)

pub matches-to : (pattern text : List ℕ) → Matches pattern text → matches pattern text ≡ true
unfolding matches
matches-to [] text h = (bytes_eq-Decides text []).1 h
matches-to (b ∷ pattern) text m =
    let passes : (is_part b m.0 && matches pattern m.1) ≡ true = rw (part_to b m.0 m.3, matches-to pattern m.1 m.4) refl in
    cut_to (λ part rest. is_part b part && matches pattern rest) text m.0 m.1 m.2 passes

-- a test that holds exactly where a pattern matches
pub matches-is : (r : Bool) (pattern text : List ℕ) → ((r ≡ true) ↔ Matches pattern text) → r ≡ matches pattern text
matches-is true pattern text h = sym (matches-to pattern text (h.0 refl))
matches-is false pattern text h = here (matches pattern text) refl
  where
    here : (b : Bool) → matches pattern text ≡ b → false ≡ matches pattern text
    here false e = sym e
    here true e = absurd (true≢false (sym (h.1 (matches-from pattern text e))))
