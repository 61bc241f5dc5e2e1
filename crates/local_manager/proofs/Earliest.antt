-- The least tick of all parts.
use Rattle.std.proofs.Common.{◌≡◌, ℕ, suc, ◌≤◌, min, Bool, true, false, cond, nat_eq, List, [], ◌∷◌, Some, None, Option, slice_get, refl, sym, ap}
use Rattle.std.proofs.Common.{arith, ◌∙◌, subst}
use Rattle.std.proofs.lemmas.Bool.Decides.{nat_tests}
use Rattle.sim_base.specs.declared.ids.ActorId.{ActorId}
use Rattle.local_manager.specs.Merged.{insert, insert_all, union, IsRising}
use Rattle.agenda.specs.Dues.{comes_before, least}
use Rattle.local_manager.specs.Directories.{Kept, earlier, earliest, home_of_due}
use Rattle.agenda.specs.declared.due.Due.{Due}
use Rattle.local_manager.proofs.Merging.{rises_union, rises_filter}
use Rattle.local_manager.proofs.Keeping.{due_order}

least_insert : (x : Due) (xs : List Due) → least (insert comes_before x xs) ≡ earlier (Some x.tick) (least xs)
least_insert x [] = refl
least_insert x (y ∷ ys) = deeper (comes_before x y) (comes_before y x) refl refl
  where
    deeper : (b c : Bool) → comes_before x y ≡ b → comes_before y x ≡ c
        → least (cond b (x ∷ y ∷ ys) (cond c (y ∷ insert comes_before x ys) (y ∷ ys))) ≡ Some (min x.tick y.tick)
    deeper true c hb hc = let e : x.tick ≡ min x.tick y.tick = grind (arith, nat_tests, hb) in ap (λ (n : ℕ). Some n) e
    deeper false true hb hc = let e : y.tick ≡ min x.tick y.tick = grind (arith, nat_tests, hc) in ap (λ (n : ℕ). Some n) e
    deeper false false hb hc = let e : y.tick ≡ min x.tick y.tick = grind (arith, nat_tests, hb, hc) in ap (λ (n : ℕ). Some n) e

earlier_twice : (a b : ℕ) (c : Option ℕ) → a ≤ b → earlier (Some b) (earlier (Some a) c) ≡ earlier (Some a) c
earlier_twice a b None h = let e : min b a ≡ a = omega arith in ap (λ (n : ℕ). Some n) e
earlier_twice a b (Some d) h = let e : min b (min a d) ≡ min a d = omega arith in ap (λ (n : ℕ). Some n) e

least_insert_all : (a p : List Due) → IsRising comes_before p → least (insert_all comes_before a p) ≡ earlier (least p) (least a)
least_insert_all a [] r = refl
least_insert_all a (x ∷ []) r = least_insert x a
least_insert_all a (x ∷ y ∷ p) r =
    least_insert_all (insert comes_before x a) (y ∷ p) r.1 ∙ ap (λ (o : Option ℕ). earlier (Some y.tick) o) (least_insert x a)
    ∙ earlier_twice x.tick y.tick (least a) (grind (arith, nat_tests, r.0.0))

abbrev AllRising : List (List Due) → Type 0
AllRising [] = Unit {0}
AllRising (p ∷ ps) = IsRising comes_before p × AllRising ps

all_rising : (ps : List (List Due)) → ((m : ℕ) (p : List Due) → slice_get ps m ≡ Some p → IsRising comes_before p) → AllRising ps
all_rising [] h = tt
all_rising (p ∷ ps) h = (h 0 p refl, all_rising ps (λ m q e. h (suc m) q e))

earlier_chain : (a b c : Option ℕ) → earlier (earlier a b) c ≡ earlier a (earlier b c)
earlier_chain None b c = refl
earlier_chain (Some a) None c = refl
earlier_chain (Some a) (Some b) None = refl
earlier_chain (Some a) (Some b) (Some c) = let e : min (min a b) c ≡ min a (min b c) = omega arith in ap (λ (n : ℕ). Some n) e

least_union : (found : Option ℕ) (ps : List (List Due)) → AllRising ps → earlier found (least (union comes_before ps)) ≡ earliest found ps
unfolding union
least_union None [] h = refl
least_union (Some n) [] h = refl
least_union found (p ∷ ps) h = ap (λ (o : Option ℕ). earlier found o) (least_insert_all (union comes_before ps) p h.0)
    ∙ sym (earlier_chain found (least p) (least (union comes_before ps))) ∙ least_union (earlier found (least p)) ps h.1

-- the least tick of the one agenda is the least of the managers'
pub least_kept : (homes loads : List ℕ) (ps : List (List Due)) (lists : List (List ActorId)) → Kept homes loads ps lists
    → least (union comes_before ps) ≡ earliest None ps
least_kept homes loads ps lists k = least_union None ps (all_rising ps (λ m p e.
    subst (λ (q : List Due). IsRising comes_before q) (sym (k.dues m p e))
    (rises_filter comes_before (λ d. nat_eq (home_of_due homes d) m) (union comes_before ps) (rises_union comes_before due_order ps))))
