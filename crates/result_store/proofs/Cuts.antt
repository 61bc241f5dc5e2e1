-- The steps of the search for a cut.
use Rattle.std.proofs.Common.{◌≡◌, ◌≢◌, ℕ, zero, suc, ◌-◌, ◌<◌, ◌≤◌, List, [], ◌∷◌, ◌++◌, append_assoc, length, take, drop, get_or, Bool, true, false, ◌==◌, ◌&&◌, ◌↔◌, refl, sym, ap, ◌∙◌, subst, arith, true≢false}
use Rattle.std.proofs.lemmas.Bool.{and_parts, eqb-true, eq-eqb}
use Rattle.std.proofs.lemmas.List.{length-append, take-append-drop}
use Rattle.std.proofs.lemmas.List.Prefix.{front_rest}
use Rattle.std.proofs.Math.Seq.{get_or-append_seam}
use Rattle.std.specs.List.{list_all}
use Rattle.result_store.specs.Patterns.{star}
use Rattle.result_store.proofs.Parts.{Matches}

-- ---- one step

pub literal_step : (b c : ℕ) (p t : List ℕ) → b ≢ star → b ≡ c → Matches (b ∷ p) (c ∷ t) ↔ Matches p t
literal_step b c p t plain same = (
  λ m. let cut : c ∷ t ≡ b ∷ m.1 = m.2 ∙ ap (λ part. part ++ m.1) (m.3 plain) in
      let rest : m.1 ≡ t = cc in subst (Matches p) rest m.4,
  λ m. (b ∷ [], t, ap (λ x. x ∷ t) (sym same), λ h. refl, m),
)

pub literal_fails : (b c : ℕ) (p t : List ℕ) → b ≢ star → b ≢ c → Matches (b ∷ p) (c ∷ t) → ⊥
literal_fails b c p t plain apart m =
    let cut : c ∷ t ≡ b ∷ m.1 = m.2 ∙ ap (λ part. part ++ m.1) (m.3 plain) in
    apart (cc)

-- a star takes some bytes
pub star_takes : (p t : List ℕ) → Matches (star ∷ p) t → (k : ℕ) × (k ≤ length t) × Matches p (drop k t)
star_takes p t m =
    let fits : length m.0 ≤ length t = omega (arith, ap length m.2, length-append m.0 m.1) in
    let rest : drop (length m.0) t ≡ m.1 = front_rest t m.0 m.1 m.2 in
    (length m.0, fits, subst (Matches p) (sym rest) m.4)

pub star_from : (p t : List ℕ) (k : ℕ) → Matches p (drop k t) → Matches (star ∷ p) t
star_from p t k m = (take k t, drop k t, sym (take-append-drop k t), λ h. absurd (h refl), m)

-- ---- a front with no star takes as many bytes

pub segment : (n : ℕ) (p t : List ℕ) → n ≤ length p → ((j : ℕ) → j < n → get_or p j 0 ≢ star) → Matches p t → (n ≤ length t) × Matches (drop n p) (drop n t)
segment zero p t fits plain m = (omega arith, m)
segment (suc n) [] t fits plain m = absurd (omega arith)
segment (suc n) (b ∷ p) t fits plain m =
    let cut : t ≡ b ∷ m.1 = m.2 ∙ ap (λ part. part ++ m.1) (m.3 (plain 0 (omega arith))) in
    let more = segment n p m.1 (omega arith) (λ j h. plain (suc j) (omega arith)) m.4 in
    (omega (arith, more.0, ap length cut), subst (λ t. Matches (drop n p) (drop (suc n) t)) (sym cut) more.1)

-- ---- the last byte of a pattern, if no star, is that of the text

abbrev pub last_byte : List ℕ → ℕ
last_byte l = get_or l (length l - 1) 0

later_last : (b c : ℕ) (p : List ℕ) → last_byte (b ∷ c ∷ p) ≡ last_byte (c ∷ p)
later_last b c p = let place : length (b ∷ c ∷ p) - 1 ≡ suc (length (c ∷ p) - 1) = omega arith in ap (λ n. get_or (b ∷ c ∷ p) n 0) place

ends_with : (p t : List ℕ) → 0 < length p → last_byte p ≢ star → Matches p t → (front : List ℕ) × (t ≡ front ++ last_byte p ∷ [])
ends_with [] t some plain m = absurd (omega arith)
ends_with (b ∷ []) t some plain m =
    let only : t ≡ b ∷ m.1 = m.2 ∙ ap (λ part. part ++ m.1) (m.3 plain) in
    ([], only ∙ ap (λ rest. b ∷ rest) m.4)
ends_with (b ∷ c ∷ p) t some plain m =
    let same : last_byte (b ∷ c ∷ p) ≡ last_byte (c ∷ p) = later_last b c p in
    let more = ends_with (c ∷ p) m.1 (omega arith) (λ is. plain (same ∙ is)) m.4 in
    let cut = m.2 ∙ ap (λ rest. m.0 ++ rest) more.1 ∙ sym (append_assoc m.0 more.0 (last_byte (c ∷ p) ∷ [])) in
    (m.0 ++ more.0, cut ∙ ap (λ x. (m.0 ++ more.0) ++ x ∷ []) (sym same))

pub same_end : (p t : List ℕ) → 0 < length p → last_byte p ≢ star → Matches p t → last_byte t ≡ last_byte p
same_end p t some plain m =
    let cut = ends_with p t some plain m in
    let place : length t - 1 ≡ length cut.0 = omega (arith, ap length cut.1, length-append cut.0 (last_byte p ∷ [])) in
    ap (λ n. get_or t n 0) place ∙ ap (λ l. get_or l (length cut.0) 0) cut.1 ∙ get_or-append_seam cut.0 (last_byte p) [] 0

-- ---- at the end

nothing_after : (xs ys : List ℕ) → [] ≡ xs ++ ys → ys ≡ []
nothing_after [] ys e = sym e
nothing_after (x ∷ xs) ys e = absurd (cc)

no_byte : (b : ℕ) (ys : List ℕ) → [] ≡ b ∷ ys → ⊥
no_byte b ys e = cc

pub stars_match : (p : List ℕ) → list_all (λ b. b == star) p ≡ true → Matches p []
stars_match [] h = refl
stars_match (b ∷ p) h = let both = and_parts (b == star) (list_all (λ b. b == star) p) h in ([], [], refl, λ apart. absurd (apart (eqb-true b star both.0)), stars_match p both.1)

pub match_stars : (p : List ℕ) → Matches p [] → list_all (λ b. b == star) p ≡ true
match_stars [] m = refl
match_stars (b ∷ p) m =
    let none : m.1 ≡ [] = nothing_after m.0 m.1 m.2 in
    here (b == star) refl (match_stars p (subst (Matches p) none m.4))
  where
    here : (x : Bool) → (b == star) ≡ x → list_all (λ b. b == star) p ≡ true → ((b == star) && list_all (λ b. b == star) p) ≡ true
    here true e rest = rw e rest
    here false e rest = let part = m.3 (λ same. true≢false (sym (eq-eqb b star same) ∙ e)) in absurd (no_byte b m.1 (m.2 ∙ ap (λ part. part ++ m.1) part))

-- the last star, which the pattern goes on behind at `after`, takes more than up to `taken`
abbrev pub Later : List ℕ → List ℕ → ℕ → ℕ → Type 0
Later p t after taken = (k : ℕ) × (0 < after) × (taken < k) × (k ≤ length t) × Matches (drop after p) (drop k t)
