-- What an index finds.
use Rattle.std.proofs.Common.{◌≡◌, ◌≢◌, ℕ, suc, zero, ◌+◌, ◌-◌, ◌<◌, ◌≤◌, Bool, true, false, not, ◌&&◌, ◌==◌, nat_lt, ◌⊎◌, inl, inr, List, []}
use Rattle.std.proofs.Common.{◌∷◌, refl, sym, ap, arith, ◌∙◌, subst, length, get_or, take, drop, map, Some, slice_get, Contains}
use Rattle.std.proofs.lemmas.Bool.{cases_eq}
use Rattle.std.proofs.lemmas.Bool.Decides.{nat_tests}
use Rattle.std.proofs.lemmas.Cmp.{nat_cmp_total}
use Rattle.std.proofs.lemmas.List.{length-drop, length-map, length-take-le, get_or_default, get_or-map}
use Rattle.std.proofs.lemmas.List.Elements.{filter_agree}
use Rattle.std.proofs.lemmas.List.Sorted.{searchable_from_sorted}
use Rattle.std.proofs.lemmas.Option.{get_or_from_slice_get, slice_get_within, slice_get-get_or}
use Rattle.std.specs.List.{filter}
use Rattle.std.specs.List.Sorted.{IsNonDecreasingBy, IsPartitionPoint, IsStrictlyIncreasing, ties}
use Rattle.std.specs.Ordering.{is_lt, nat_cmp, ordering_index}
use Rattle.std.specs.declared.cmp.Ordering.TheVariants.{Equal, Greater, Less}
use Rattle.sim_base.specs.declared.ids.ActorId.{ActorId}
use Rattle.actor_trait.specs.InboxOrder.{is_to}
use Rattle.actor_trait.proofs.Numbers.{equal_numbers, is_lt-nat_cmp, not_less, unequal_greater, unequal_less}
use Rattle.actor_trait.specs.declared.letter.Letter.{Letter}
use Rattle.inbox_order.specs.Index.{IsIndex, IsRun, end_of}

tie_of_numbers : (x y : ℕ) → (not (is_lt (nat_cmp x y)) && not (is_lt (nat_cmp y x))) ≡ (y == x)
tie_of_numbers x y = rw (is_lt-nat_cmp x y, is_lt-nat_cmp y x) (grind (arith, nat_tests))

pub one_id : (r q : ActorId) → r.0 ≡ q.0 → r ≡ q
one_id r q e = let id : ℕ → ActorId = λ n. record { 0 = n } in ap id e

-- ---- letters sorted by recipient

-- those to one keep their order
pub same_letters : (xs ys : List Letter) → ((x : Letter) → filter (ties (λ (l k : Letter). is_lt (nat_cmp l.to.0 k.to.0)) x) ys ≡ filter (ties (λ (l k : Letter). is_lt (nat_cmp l.to.0 k.to.0)) x) xs)
    → (d : Letter) (a : ActorId) → filter (is_to a) ys ≡ filter (is_to a) xs
same_letters xs ys stable d a =
    let one : Letter = record d { to = a } in
    let test : (l : Letter) → is_to a l ≡ ties (λ (l k : Letter). is_lt (nat_cmp l.to.0 k.to.0)) one l = λ l. sym (tie_of_numbers a.0 l.to.0) in
    filter_agree (is_to a) (ties (λ (l k : Letter). is_lt (nat_cmp l.to.0 k.to.0)) one) test ys ∙ stable one ∙ sym (filter_agree (is_to a) (ties (λ (l k : Letter). is_lt (nat_cmp l.to.0 k.to.0)) one) test xs)

-- ---- the recipient that a binary search finds

found : (ls : List Letter) (rs : List ActorId) (ss : List ℕ) (at : ℕ) (to : ActorId) → IsIndex ls rs ss → at < length rs → ((d : ActorId) → nat_cmp (get_or rs at d).0 to.0 ≡ Equal)
    → IsRun ls (get_or ss at 0) (end_of ls ss at) to
found ls rs ss at to h within equal =
    let many : length ss ≡ length rs = h.many in
    let same : get_or rs at to ≡ to = one_id (get_or rs at to) to (equal_numbers (get_or rs at to).0 to.0 (equal to)) in
    subst (λ (r : ActorId). IsRun ls (get_or ss at 0) (end_of ls ss at) r) same
    (h.runs at (get_or ss at 0) (get_or rs at to) (slice_get-get_or rs at to within) (slice_get-get_or ss at 0 (omega arith)))

-- ... as the code reads it
pub run_at : (ls : List Letter) (rs : List ActorId) (ss : List ℕ) (at start end : ℕ) (to : ActorId) (read : List ActorId) → IsIndex ls rs ss → read ≡ rs
    → at < length read → ((d : ActorId) → nat_cmp (get_or read at d).0 to.0 ≡ Equal) → start ≡ get_or ss at start → end ≡ get_or ss (at + 1) (length ls) → IsRun ls start end to
run_at ls rs ss at start end to read h p within equal s e =
    let inside : at < length rs = subst (λ (x : List ActorId). at < length x) p within in
    let many : length ss ≡ length rs = h.many in
    let first : start ≡ get_or ss at 0 = s ∙ get_or_default ss at start 0 (omega arith) in
    rw (first, e) (found ls rs ss at to h inside (subst (λ (x : List ActorId). (d : ActorId) → nat_cmp (get_or x at d).0 to.0 ≡ Equal) p equal))

-- the run of a recipient that was read at its place
pub run_near : (ls : List Letter) (rs : List ActorId) (ss : List ℕ) (at start end : ℕ) (to : ActorId) (read : List ActorId) (r : ActorId)
    → IsIndex ls rs ss → read ≡ rs → at < length read → r ≡ get_or read at r → r.0 ≡ to.0
    → start ≡ get_or ss at start → end ≡ get_or ss (at + 1) (length ls) → IsRun ls start end to
run_near ls rs ss at start end to read r h p within is test s e =
    let inside : at < length rs = subst (λ (x : List ActorId). at < length x) p within in
    let many : length ss ≡ length rs = h.many in
    let first : start ≡ get_or ss at 0 = s ∙ get_or_default ss at start 0 (omega arith) in
    let id : r ≡ to = one_id r to test in
    let there : r ≡ get_or rs at r = subst (λ (x : List ActorId). r ≡ get_or x at r) p is in
    let got : slice_get rs at ≡ Some r = slice_get-get_or rs at r inside ∙ ap (λ (q : ActorId). Some q) (sym there) in
    rw (first, e) (subst (λ (q : ActorId). IsRun ls (get_or ss at 0) (end_of ls ss at) q) id
    (h.runs at (get_or ss at 0) r got (slice_get-get_or ss at 0 (omega arith))))

pub range_some : (ls : List Letter) (start end : ℕ) (to : ActorId) → IsRun ls start end to → start ≤ end
range_some ls start end to h = let some : start < end = h.some in omega arith

-- the recipients ascend
ascending : (ls : List Letter) (rs : List ActorId) (ss : List ℕ) → IsIndex ls rs ss → (k : ℕ) (d : ActorId) → k + 1 < length rs → (get_or rs k d).0 < (get_or rs (k + 1) d).0
ascending ls rs ss h k d b =
    h.rising k (k + 1) (get_or rs k d) (get_or rs (k + 1) d) (omega arith) (slice_get-get_or rs k d (omega arith)) (slice_get-get_or rs (k + 1) d b)

pub searchable : (ls : List Letter) (rs : List ActorId) (ss : List ℕ) (to : ActorId) → IsIndex ls rs ss → IsNonDecreasingBy (λ r. ordering_index (nat_cmp r.0 to.0)) rs
searchable ls rs ss to h =
    let number : ActorId → ℕ = λ r. r.0 in
    searchable_from_sorted nat_cmp_total number rs to.0 (λ k d low b. not_less (get_or rs k d).0 (get_or rs (k + 1) d).0 (ascending ls rs ss h k d b))

pub not_found : (ls : List Letter) (rs : List ActorId) (ss : List ℕ) (at : ℕ) (to : ActorId) → IsIndex ls rs ss
    → IsPartitionPoint (λ r. nat_cmp r.0 to.0 ≡ Less) (λ r. nat_cmp r.0 to.0 ≡ Greater) rs at → [] ≡ filter (is_to to) ls
not_found ls rs ss at to h split = sym (h.others to (λ i r e. by i r e (nat_lt i at) refl))
  where
    by : (i : ℕ) (r : ActorId) → slice_get rs i ≡ Some r → (b : Bool) → nat_lt i at ≡ b → r.0 ≢ to.0
    by i r e true k = let same : get_or rs i r ≡ r = get_or_from_slice_get rs i r r e in unequal_less r.0 to.0 (subst (λ (q : ActorId). nat_cmp q.0 to.0 ≡ Less) same (split.0 i r (omega arith) (grind (arith, nat_tests))))
    by i r e false k =
        let within : i < length rs = slice_get_within rs i r e in
        let same : get_or rs i r ≡ r = get_or_from_slice_get rs i r r e in
        unequal_greater r.0 to.0 (subst (λ (q : ActorId). nat_cmp q.0 to.0 ≡ Greater) same (split.1 i r (grind (arith, nat_tests)) within))

-- ---- the recipients

pub ids_ascend : (ls : List Letter) (rs : List ActorId) (ss : List ℕ) → IsIndex ls rs ss → IsStrictlyIncreasing (map (λ r. r.0) rs)
ids_ascend ls rs ss h k b =
    let number : ActorId → ℕ = λ r. r.0 in
    let nobody : ActorId = record { 0 = 0 } in
    let long : length (map number rs) ≡ length rs = length-map rs number in
    let low : get_or (map number rs) k 0 ≡ (get_or rs k nobody).0 = get_or-map number rs k nobody 0 (omega arith) in
    let high : get_or (map number rs) (k + 1) 0 ≡ (get_or rs (k + 1) nobody).0 = get_or-map number rs (k + 1) nobody 0 (omega arith) in
    let less : (get_or rs k nobody).0 < (get_or rs (k + 1) nobody).0 = ascending ls rs ss h k nobody (omega arith) in
    omega arith

run_some : (ls : List Letter) (start end : ℕ) (to : ActorId) → IsRun ls start end to → 0 < length (filter (is_to to) ls)
run_some ls start end to h =
    let some : start < end = h.some in
    let within : end ≤ length ls = h.within in
    let rest : length (drop start ls) ≡ length ls - start = length-drop start ls in
    let long : length (take (end - start) (drop start ls)) ≡ end - start = length-take-le (end - start) (drop start ls) (omega arith) in
    let same : length (take (end - start) (drop start ls)) ≡ length (filter (is_to to) ls) = ap length h.all in
    omega arith

pub has_letter : (ls : List Letter) (rs : List ActorId) (ss : List ℕ) (to : ActorId) → IsIndex ls rs ss → Contains rs to → 0 < length (filter (is_to to) ls)
has_letter ls rs ss to h c =
    let within : c.0 < length rs = c.1 in
    let many : length ss ≡ length rs = h.many in
    let got : slice_get rs c.0 ≡ Some to = slice_get-get_or rs c.0 to within ∙ ap (λ (r : ActorId). Some r) c.2 in
    run_some ls (get_or ss c.0 0) (end_of ls ss c.0) to (h.runs c.0 (get_or ss c.0 0) to got (slice_get-get_or ss c.0 0 (omega arith)))

known : (rs : List ActorId) (to : ActorId) → Contains rs to ⊎ ((i : ℕ) (r : ActorId) → slice_get rs i ≡ Some r → r.0 ≢ to.0)
known [] to = inr (λ i r e. absurd (cc))
known (q ∷ rs) to = by (known rs to) (cases_eq q.0 to.0)
  where
    by : Contains rs to ⊎ ((i : ℕ) (r : ActorId) → slice_get rs i ≡ Some r → r.0 ≢ to.0) → (q.0 ≡ to.0) ⊎ (q.0 ≡ to.0 → ⊥)
        → Contains (q ∷ rs) to ⊎ ((i : ℕ) (r : ActorId) → slice_get (q ∷ rs) i ≡ Some r → r.0 ≢ to.0)
    by g (inl e) = inl (0, omega arith, one_id q to e)
    by (inl g) (inr n) = let within : g.0 < length rs = g.1 in inl (suc g.0, omega arith, g.2)
    by (inr g) (inr n) = inr each
      where
        each : (i : ℕ) (r : ActorId) → slice_get (q ∷ rs) i ≡ Some r → r.0 ≢ to.0
        each zero r e = let same : q ≡ r = cc in subst (λ (x : ActorId). x.0 ≢ to.0) same n
        each (suc i) r e = g i r e

pub is_recipient : (ls : List Letter) (rs : List ActorId) (ss : List ℕ) (to : ActorId) → IsIndex ls rs ss → 0 < length (filter (is_to to) ls) → Contains rs to
is_recipient ls rs ss to h some = by (known rs to)
  where
    by : Contains rs to ⊎ ((i : ℕ) (r : ActorId) → slice_get rs i ≡ Some r → r.0 ≢ to.0) → Contains rs to
    by (inl c) = c
    by (inr n) = let none : length (filter (is_to to) ls) ≡ 0 = ap length (h.others to n) in absurd (omega arith)
