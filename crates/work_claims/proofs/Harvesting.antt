-- The reports of all hands, in order, are those of one thread.
use Rattle.std.proofs.Common.{◌≡◌, ℕ, zero, suc, ◌+◌, ◌<◌, ◌≤◌, Bool, true, false, ◌||◌, nat_eq, List, [], ◌∷◌, length, map, get_or, Option, eqb-true, eq-eqb, refl, sym, ap, ◌∙◌, subst, arith}
use mathlib.Core.Logic.{dite}
use native.Mathlib.Decide.{ℕ_discrete}
use Rattle.std.specs.List.{All, AllPairs, cons_option, filter_map}
use Rattle.std.specs.List.Sorted.{IsNonDecreasingBy, IsPermutation}
use Rattle.std.specs.Option.{option_map}
use Rattle.std.proofs.lemmas.List.Elements.{All-head, All-tail}
use Rattle.std.proofs.lemmas.List.Kept.{AllPairs-cons}
use Rattle.std.proofs.lemmas.List.Sorted.{All-permutation, sum_by-IsPermutation}
use Rattle.std.proofs.lemmas.List.Sums.{sum_by-cons}
use Rattle.sim_base.specs.declared.ids.ActorId.{ActorId}
use Rattle.actor_trait.specs.Meaning.{Meaning}
use Rattle.actor_trait.specs.declared.outcome.Outcome.{Outcome}
use Rattle.quiet_core.specs.Rows.{bit}
use Rattle.sim_model.specs.Moment.{is_among, report_of}
use Rattle.sim_model.specs.Setups.{Ascend}
use Rattle.sim_model.specs.declared.report.Report.{Report}
use Rattle.sim_model.proofs.Ascending.{pairs_map, pairs_nil}
use Rattle.sim_model.proofs.Sameness.{id_same, same_ids}
use Rattle.work_claims.specs.Acting.{reports_of}
use Rattle.work_claims.specs.Placed.{IsMeant, IsPlaced, Placed, id_at, reports_at, scheduled_at}
use Rattle.work_claims.proofs.Places.{place_of}

module _ {A : Type 0} where
  counted : (r : Report A) (rs : List (Report A)) (id : ActorId) → reports_of (r ∷ rs) id ≡ bit (nat_eq r.id.0 id.0) + reports_of rs id
  counted r rs id = sum_by-cons (λ q. bit (nat_eq q.id.0 id.0)) r rs

  -- who has a report counts
  some_of : (rs : List (Report A)) (id : ActorId) (k : ℕ) (d : Report A) → k < length rs → (get_or rs k d).id.0 ≡ id.0 → 1 ≤ reports_of rs id
  some_of [] id k d lt e = absurd (omega arith)
  some_of (r ∷ rs) id zero d lt e = let c = counted r rs id in let b = ap bit (eq-eqb r.id.0 id.0 e) in omega arith
  some_of (r ∷ rs) id (suc k) d lt e = let c = counted r rs id in let s = some_of rs id k d (omega arith) e in omega arith

  counted_among : (rs : List (Report A)) (id : ActorId) → 1 ≤ reports_of rs id → is_among (map (λ r. r.id) rs) id ≡ true
  counted_among [] id h = absurd (omega arith)
  counted_among (r ∷ rs) id h = told (nat_eq r.id.0 id.0) refl (counted_among rs id) where
    told : (b : Bool) → nat_eq r.id.0 id.0 ≡ b → (1 ≤ reports_of rs id → is_among (map (λ r. r.id) rs) id ≡ true)
        → (b || is_among (map (λ r. r.id) rs) id) ≡ true
    told true e later = refl
    told false e later = let c = counted r rs id in let z = ap bit e in later (omega arith)

  -- of scheduled actors alone
  among_map : (ids : List ActorId) (rs : List (Report A)) (id : ActorId) → All (λ r. is_among ids r.id ≡ true) rs → is_among (map (λ r. r.id) rs) id ≡ true
      → is_among ids id ≡ true
  among_map ids [] id h e = cc
  among_map ids (r ∷ rs) id h e = told (nat_eq r.id.0 id.0) refl e (among_map ids rs id (All-tail (λ r. is_among ids r.id ≡ true) r rs h)) where
    told : (b : Bool) → nat_eq r.id.0 id.0 ≡ b → (b || is_among (map (λ r. r.id) rs) id) ≡ true
        → (is_among (map (λ r. r.id) rs) id ≡ true → is_among ids id ≡ true) → is_among ids id ≡ true
    told true f g later = subst (λ k. is_among ids k ≡ true) (id_same r.id id (eqb-true r.id.0 id.0 f)) (All-head (λ r. is_among ids r.id ≡ true) r rs h)
    told false f g later = later g

  -- one report each, in order, ascend
  rises : (rs : List (Report A)) → IsNonDecreasingBy (λ r. r.id.0) rs → All (λ r. reports_of rs r.id ≤ 1) rs → AllPairs (λ r q. r.id.0 < q.id.0) rs
  rises [] up few = pairs_nil (λ r q. r.id.0 < q.id.0)
  rises (r ∷ rs) up few = AllPairs-cons (λ r q. r.id.0 < q.id.0) r rs above
      (rises rs (λ i j d lt within. up (suc i) (suc j) d (omega arith) (omega arith)) fewer) where
        one : reports_of (r ∷ rs) r.id ≤ 1
        one = All-head (λ q. reports_of (r ∷ rs) q.id ≤ 1) r rs few

        above : All (λ q. r.id.0 < q.id.0) rs
        above k d lt = dite (ℕ_discrete (get_or rs k d).id.0 r.id.0)
            (λ e. let s = some_of rs r.id k d lt e in let c = counted r rs r.id in let b = ap bit (eq-eqb r.id.0 r.id.0 refl) in let o = one in absurd (omega arith))
            (λ ne. let u = up 0 (suc k) d (omega arith) (omega arith) in omega arith)

        fewer : All (λ q. reports_of rs q.id ≤ 1) rs
        fewer k d lt = let f = few (suc k) d (omega arith) in let c = counted r rs (get_or rs k d).id in omega arith

  -- what the reports' actors mean is the reports
  reported : (m : Meaning A) (p : Placed A) (rs : List (Report A)) → All (IsMeant m p) rs → filter_map (report_of m p.world p.at) (map (λ r. r.id) rs) ≡ rs
  reported m p [] h = refl
  reported m p (r ∷ rs) h =
      ap (λ (o : Option (Outcome A)). cons_option (option_map (λ x. record { id = r.id; outcome = x }) o) (filter_map (report_of m p.world p.at) (map (λ r. r.id) rs)))
      (All-head (IsMeant m p) r rs h)
      ∙ ap (λ (l : List (Report A)). r ∷ l) (reported m p rs (All-tail (IsMeant m p) r rs h))

  module _ (m : Meaning A) (p : Placed A) (placed : IsPlaced p) (rs sorted : List (Report A)) (moved : IsPermutation rs sorted)
      (ascending : IsNonDecreasingBy (λ r. r.id.0) sorted) (meant : All (IsMeant m p) rs)
      (scheduled : All (λ r. is_among p.world.scheduled r.id ≡ true) rs)
      (once : (k i : ℕ) → k < p.managers → i < length (scheduled_at p k) → reports_of rs (id_at p k i) ≡ 1) where
    one_each : (id : ActorId) → is_among p.world.scheduled id ≡ true → reports_of sorted id ≡ 1
    one_each id e =
        let q = place_of p id e in
        let o = once (p.home id) q.0 (placed.homes id e) q.1 in
        let s = sum_by-IsPermutation (λ r. bit (nat_eq r.id.0 id.0)) rs sorted moved in
        let n : reports_of rs id ≡ 1 = subst (λ k. reports_of rs k ≡ 1) q.2 o in omega arith

    known : All (λ r. is_among p.world.scheduled r.id ≡ true) sorted
    known = All-permutation (λ r. is_among p.world.scheduled r.id ≡ true) rs sorted moved scheduled

    same : (id : ActorId) → is_among (map (λ r. r.id) sorted) id ≡ is_among p.world.scheduled id
    same id = told (is_among (map (λ r. r.id) sorted) id) refl (is_among p.world.scheduled id) refl where
      told : (a : Bool) → is_among (map (λ r. r.id) sorted) id ≡ a → (b : Bool) → is_among p.world.scheduled id ≡ b
          → is_among (map (λ r. r.id) sorted) id ≡ is_among p.world.scheduled id
      told a e true f = let one = one_each id f in counted_among sorted id (omega arith) ∙ sym f
      told true e false f = let g = among_map p.world.scheduled sorted id known e in cc
      told false e false f = e ∙ sym f

    rising : Ascend (map (λ r. r.id) sorted)
    rising = pairs_map (λ a b. a.0 < b.0) (λ r. r.id) sorted
        (rises sorted ascending (λ k d lt. let o = one_each (get_or sorted k d).id (known k d lt) in omega arith))

    pub harvested : sorted ≡ reports_at m p
    harvested =
        sym (reported m p sorted (All-permutation (IsMeant m p) rs sorted moved meant))
        ∙ ap (filter_map (report_of m p.world p.at)) (same_ids (map (λ r. r.id) sorted) p.world.scheduled rising placed.ascend same)
