-- The scheduled actors by manager and place.
use Rattle.std.proofs.Common.{◌≡◌, ◌≢◌, ℕ, zero, suc, ◌<◌, ◌⊎◌, inl, inr, Bool, true, false, ◌||◌, cond, nat_eq, List, [], ◌∷◌, length, get_or}
use Rattle.std.proofs.Common.{refl, sym, ap, ◌∙◌, subst, arith, eq-eqb, eqb-true}
use mathlib.Core.Logic.{dite}
use native.Mathlib.Decide.{ℕ_discrete, dec_lt}
use Rattle.std.specs.List.{filter}
use Rattle.std.proofs.lemmas.List.Elements.{filter_passes}
use Rattle.std.proofs.lemmas.List.Kept.{AllPairs-filter}
use Rattle.sim_base.specs.declared.ids.ActorId.{ActorId}
use Rattle.sim_model.specs.Moment.{is_among}
use Rattle.sim_model.specs.Setups.{Ascend}
use Rattle.sim_model.proofs.Sameness.{id_same, itself}
use Rattle.work_claims.specs.Placed.{IsPlaced, Placed, id_at, scheduled_at}

-- a pair of numbers is this one, or another
pub this_or : (k j m i : ℕ) → ((k ≡ m) × (j ≡ i)) ⊎ ((k ≢ m) ⊎ (j ≢ i))
this_or k j m i = dite (ℕ_discrete k m) (λ e. dite (ℕ_discrete j i) (λ f. inl (e, f)) (λ ne. inr (inr ne))) (λ ne. inr (inl ne))

or_true : (b : Bool) → (b || true) ≡ true
or_true true = refl
or_true false = refl

-- who stands in a list is among it
pub among_at : (ids : List ActorId) (i : ℕ) (d : ActorId) → i < length ids → is_among ids (get_or ids i d) ≡ true
among_at [] i d lt = absurd (omega arith)
among_at (x ∷ xs) zero d lt = itself xs x
among_at (x ∷ xs) (suc i) d lt = ap (λ b. nat_eq x.0 (get_or xs i d).0 || b) (among_at xs i d (omega arith)) ∙ or_true (nat_eq x.0 (get_or xs i d).0)

among_filter : (q : ActorId → Bool) (ids : List ActorId) (id : ActorId) → is_among (filter q ids) id ≡ true → is_among ids id ≡ true
among_filter q [] id e = e
among_filter q (x ∷ xs) id e = told (q x) e (among_filter q xs id) where
  first : (c : Bool) → (c || is_among (filter q xs) id) ≡ true → (is_among (filter q xs) id ≡ true → is_among xs id ≡ true)
      → (c || is_among xs id) ≡ true
  first true g later = refl
  first false g later = later g

  told : (b : Bool) → is_among (cond b (x ∷ filter q xs) (filter q xs)) id ≡ true → (is_among (filter q xs) id ≡ true → is_among xs id ≡ true)
      → (nat_eq x.0 id.0 || is_among xs id) ≡ true
  told true f later = first (nat_eq x.0 id.0) f later
  told false f later = ap (λ b. nat_eq x.0 id.0 || b) (later f) ∙ or_true (nat_eq x.0 id.0)

-- who is among a list and passes a test stands among those that pass
found_in : (q : ActorId → Bool) (ids : List ActorId) (id d : ActorId) → is_among ids id ≡ true → q id ≡ true
    → (i : ℕ) × (i < length (filter q ids)) × (get_or (filter q ids) i d ≡ id)
found_in q [] id d e f = cc
found_in q (x ∷ xs) id d e f = told (nat_eq x.0 id.0) refl e (λ g. found_in q xs id d g f) where
  later : (b : Bool) → ((i : ℕ) × (i < length (filter q xs)) × (get_or (filter q xs) i d ≡ id))
      → (i : ℕ) × (i < length (cond b (x ∷ filter q xs) (filter q xs))) × (get_or (cond b (x ∷ filter q xs) (filter q xs)) i d ≡ id)
  later true r = let lt = r.1 in (suc r.0, omega arith, r.2)
  later false r = r

  here : (b : Bool) → q x ≡ b → x ≡ id
      → (i : ℕ) × (i < length (cond b (x ∷ filter q xs) (filter q xs))) × (get_or (cond b (x ∷ filter q xs) (filter q xs)) i d ≡ id)
  here true g same = (0, omega arith, same)
  here false g same = let h = ap q same in cc

  told : (b : Bool) → nat_eq x.0 id.0 ≡ b → (b || is_among xs id) ≡ true
      → (is_among xs id ≡ true → (i : ℕ) × (i < length (filter q xs)) × (get_or (filter q xs) i d ≡ id))
      → (i : ℕ) × (i < length (cond (q x) (x ∷ filter q xs) (filter q xs))) × (get_or (cond (q x) (x ∷ filter q xs) (filter q xs)) i d ≡ id)
  told true g h rest = here (q x) refl (id_same x id (eqb-true x.0 id.0 g))
  told false g h rest = later (q x) (rest h)

module _ {A : Type 0} (p : Placed A) where
  abbrev nobody : ActorId
  nobody = record { 0 = 0 }

  -- who is scheduled at a manager is there
  pub place_home : (k i : ℕ) → i < length (scheduled_at p k) → p.home (id_at p k i) ≡ k
  place_home k i lt =
      eqb-true (p.home (id_at p k i)) k (filter_passes (λ id. nat_eq (p.home id) k) p.world.scheduled i nobody lt)

  pub place_among : (k i : ℕ) → i < length (scheduled_at p k) → is_among p.world.scheduled (id_at p k i) ≡ true
  place_among k i lt =
      among_filter (λ id. nat_eq (p.home id) k) p.world.scheduled (id_at p k i) (among_at (scheduled_at p k) i nobody lt)

  -- who is scheduled stands at a place
  pub place_of : (id : ActorId) → is_among p.world.scheduled id ≡ true
      → (i : ℕ) × (i < length (scheduled_at p (p.home id))) × (id_at p (p.home id) i ≡ id)
  place_of id e = found_in (λ k. nat_eq (p.home k) (p.home id)) p.world.scheduled id nobody e (eq-eqb (p.home id) (p.home id) refl)

  place_rises : IsPlaced p → (k : ℕ) → Ascend (scheduled_at p k)
  place_rises placed k = AllPairs-filter (λ a b. a.0 < b.0) (λ id. nat_eq (p.home id) k) p.world.scheduled placed.ascend

  -- two places of one actor are one place
  pub place_alone : IsPlaced p → (k i l j : ℕ) → i < length (scheduled_at p k) → j < length (scheduled_at p l)
      → (id_at p k i).0 ≡ (id_at p l j).0 → (k ≡ l) × (i ≡ j)
  place_alone placed k i l j li lj e =
      let same : id_at p k i ≡ id_at p l j = id_same (id_at p k i) (id_at p l j) e in
      let one_home : k ≡ l = sym (place_home k i li) ∙ ap p.home same ∙ place_home l j lj in
      (one_home, one (subst (λ n. j < length (scheduled_at p n)) (sym one_home) lj) (e ∙ ap (λ n. (id_at p n j).0) (sym one_home))) where
        one : j < length (scheduled_at p k) → (id_at p k i).0 ≡ (id_at p k j).0 → i ≡ j
        one lt f = dite (dec_lt i j)
            (λ less. let up = place_rises placed k i j nobody less lt in absurd (omega arith))
            (λ nl. dite (dec_lt j i)
            (λ less. let up = place_rises placed k j i nobody less li in absurd (omega arith))
            (λ nm. omega arith))

  pub place_apart : IsPlaced p → (k i l j : ℕ) → i < length (scheduled_at p k) → j < length (scheduled_at p l)
      → (k ≢ l) ⊎ (i ≢ j) → (id_at p l j).0 ≢ (id_at p k i).0
  place_apart placed k i l j li lj apart e = apart_is (place_alone placed k i l j li lj (sym e)) apart where
    apart_is : (k ≡ l) × (i ≡ j) → (k ≢ l) ⊎ (i ≢ j) → ⊥
    apart_is same (inl ne) = ne same.0
    apart_is same (inr ne) = ne same.1
