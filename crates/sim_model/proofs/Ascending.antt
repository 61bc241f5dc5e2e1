-- Lists in which each element is before all later ones.
use Rattle.std.proofs.Common.{◌≡◌, ℕ, suc, ◌+◌, ◌<◌, List, [], ◌∷◌, ◌++◌, map, length, get_or, Option, Some, None, arith, refl}
use Rattle.std.specs.BTreeSet.{insert_key}
use Rattle.std.specs.List.{All, AllPairs, filter_map, cons_option}
use Rattle.std.specs.List.Sorted.{IsStrictlyIncreasing}
use Rattle.std.specs.Ordering.{MatchOrdering, match_ordering}
use Rattle.std.specs.declared.cmp.Ordering.{Ordering}
use Rattle.std.specs.declared.cmp.Ordering.TheVariants.{Less, Equal, Greater}
use Rattle.std.proofs.lemmas.Cmp.{ranked}
use Rattle.std.proofs.lemmas.List.{get_or-map, length-map}
use Rattle.std.proofs.lemmas.List.Elements.{All-nil, All-cons, All-head, All-tail, All-weaker, All-append, All-map}
use Rattle.std.proofs.lemmas.List.Kept.{AllPairs-cons, AllPairs-from_increasing}
use Rattle.std.proofs.lemmas.Map.Views.{All-insert_key}
use Rattle.sim_base.specs.declared.ids.ActorId.{ActorId}
use Rattle.sim_model.specs.Moment.{actor_cmp}
use Rattle.sim_model.specs.Setups.{Ascend}

pub pairs_nil : {X : Type 0} (R : X → X → Type 0) → AllPairs R []
pairs_nil R i j d lt within = absurd (omega (arith, within))

pub pairs_head : {X : Type 0} (R : X → X → Type 0) (x : X) (xs : List X) → AllPairs R (x ∷ xs) → All (R x) xs
pairs_head R x xs h k d lt = h 0 (suc k) d (omega arith) (omega (arith, lt))

pub pairs_tail : {X : Type 0} (R : X → X → Type 0) (x : X) (xs : List X) → AllPairs R (x ∷ xs) → AllPairs R xs
pairs_tail R x xs h i j d lt within = h (suc i) (suc j) d (omega (arith, lt)) (omega (arith, within))

pub pairs_weaker : {X : Type 0} (R S : X → X → Type 0) → ((a b : X) → R a b → S a b) → (xs : List X) → AllPairs R xs → AllPairs S xs
pairs_weaker R S f xs h i j d lt within = f _ _ (h i j d lt within)

pub pairs_append : {X : Type 0} (R : X → X → Type 0) (xs ys : List X) → AllPairs R xs → AllPairs R ys → All (λ x. All (R x) ys) xs
    → AllPairs R (xs ++ ys)
pairs_append R [] ys h k cross = k
pairs_append R (x ∷ xs) ys h k cross =
    AllPairs-cons R x (xs ++ ys) (All-append (R x) xs ys (pairs_head R x xs h) (All-head (λ x. All (R x) ys) x xs cross))
    (pairs_append R xs ys (pairs_tail R x xs h) k (All-tail (λ x. All (R x) ys) x xs cross))

pub pairs_map : {X Y : Type 0} (R : Y → Y → Type 0) (f : X → Y) (xs : List X) → AllPairs (λ a b. R (f a) (f b)) xs → AllPairs R (map f xs)
pairs_map R f [] h = pairs_nil R
pairs_map R f (x ∷ xs) h =
    AllPairs-cons R (f x) (map f xs) (All-map (R (f x)) f xs (pairs_head (λ a b. R (f a) (f b)) x xs h))
    (pairs_map R f xs (pairs_tail (λ a b. R (f a) (f b)) x xs h))

-- an element at its place
pub pairs_insert : {K : Type 0} (cmp : K → K → Ordering) (R : K → K → Type 0) → ((a b c : K) → R a b → R b c → R a c)
    → ((a b : K) → cmp a b ≡ Less → R a b)
    → ((a b : K) → cmp a b ≡ Greater → R b a) → (k : K) (xs : List K) → AllPairs R xs → AllPairs R (insert_key cmp xs k)
pairs_insert cmp R trans less greater k [] h = AllPairs-cons R k [] (All-nil (R k)) h
pairs_insert cmp R trans less greater k (x ∷ xs) h = placed (cmp k x) refl (pairs_insert cmp R trans less greater k xs (pairs_tail R x xs h)) where
  placed : (o : Ordering) → cmp k x ≡ o → AllPairs R (insert_key cmp xs k)
      → AllPairs R (match_ordering o (k ∷ x ∷ xs) (x ∷ xs) (x ∷ insert_key cmp xs k))
  placed Less e more =
      AllPairs-cons R k (x ∷ xs)
      (All-cons (R k) x xs (less k x e) (All-weaker (R x) (R k) (λ y r. trans k x y (less k x e) r) xs (pairs_head R x xs h))) h
  placed Equal e more = h
  placed Greater e more = AllPairs-cons R x (insert_key cmp xs k) (All-insert_key cmp k (R x) xs (pairs_head R x xs h) (greater k x e)) more

-- what is found for the elements
pub all_found : {X Y : Type 0} (h : X → Option Y) (P : X → Type 0) (Q : Y → Type 0) → ((x : X) (y : Y) → P x → h x ≡ Some y → Q y)
    → (xs : List X) → All P xs → All Q (filter_map h xs)
all_found h P Q f [] a = All-nil Q
all_found {X} {Y} h P Q f (x ∷ xs) a = with_first (h x) refl (all_found h P Q f xs (All-tail P x xs a)) where
  with_first : (o : Option Y) → h x ≡ o → All Q (filter_map h xs) → All Q (cons_option o (filter_map h xs))
  with_first None e more = more
  with_first (Some y) e more = All-cons Q y (filter_map h xs) (f x y (All-head P x xs a) e) more

pub pairs_found : {X Y : Type 0} (h : X → Option Y) (R : X → X → Type 0) (S : Y → Y → Type 0)
    → ((a b : X) (y z : Y) → R a b → h a ≡ Some y → h b ≡ Some z → S y z)
    → (xs : List X) → AllPairs R xs → AllPairs S (filter_map h xs)
pairs_found h R S f [] a = pairs_nil S
pairs_found {X} {Y} h R S f (x ∷ xs) a = with_first (h x) refl (pairs_found h R S f xs (pairs_tail R x xs a)) where
  with_first : (o : Option Y) → h x ≡ o → AllPairs S (filter_map h xs) → AllPairs S (cons_option o (filter_map h xs))
  with_first None e more = more
  with_first (Some y) e more = AllPairs-cons S y (filter_map h xs)
      (all_found h (R x) (S y) (λ b z r found. f x b y z r e found) xs (pairs_head R x xs a)) more

-- ---- actors

id_less : (a b : ActorId) → actor_cmp a b ≡ Less → a.0 < b.0
id_less a b e = told (actor_cmp a b) (ranked a.0 b.0 (actor_cmp a b) refl) e where
  told : (o : Ordering) → MatchOrdering o (a.0 < b.0) (a.0 ≡ b.0) (b.0 < a.0) → o ≡ Less → a.0 < b.0
  told Less m e = m
  told Equal m e = cc
  told Greater m e = cc

id_greater : (a b : ActorId) → actor_cmp a b ≡ Greater → b.0 < a.0
id_greater a b e = told (actor_cmp a b) (ranked a.0 b.0 (actor_cmp a b) refl) e where
  told : (o : Ordering) → MatchOrdering o (a.0 < b.0) (a.0 ≡ b.0) (b.0 < a.0) → o ≡ Greater → b.0 < a.0
  told Less m e = cc
  told Equal m e = cc
  told Greater m e = m

pub ascend_insert : (id : ActorId) (ids : List ActorId) → Ascend ids → Ascend (insert_key actor_cmp ids id)
ascend_insert id ids h = pairs_insert actor_cmp (λ a b. a.0 < b.0) (λ a b c r s. omega (arith, r, s)) id_less id_greater id ids h

-- ---- ascending numbers

unmapped : {X : Type 0} (f : X → ℕ) (xs : List X) → AllPairs (λ a b. a < b) (map f xs) → AllPairs (λ x y. f x < f y) xs
unmapped f [] h = pairs_nil (λ x y. f x < f y)
unmapped f (x ∷ xs) h = AllPairs-cons (λ x y. f x < f y) x xs (below f x xs (pairs_head (λ a b. a < b) (f x) (map f xs) h))
    (unmapped f xs (pairs_tail (λ a b. a < b) (f x) (map f xs) h)) where
      below : {X : Type 0} (f : X → ℕ) (x : X) (xs : List X) → All (λ b. f x < b) (map f xs) → All (λ y. f x < f y) xs
      below f x [] h = All-nil (λ y. f x < f y)
      below f x (y ∷ ys) h = All-cons (λ y. f x < f y) y ys (All-head (λ b. f x < b) (f y) (map f ys) h)
          (below f x ys (All-tail (λ b. f x < b) (f y) (map f ys) h))

pub from_increasing : {X : Type 0} (f : X → ℕ) (xs : List X) → IsStrictlyIncreasing (map f xs) → AllPairs (λ x y. f x < f y) xs
from_increasing f xs h = unmapped f xs (AllPairs-from_increasing (map f xs) h)

pub to_increasing : (ids : List ActorId) → Ascend ids → IsStrictlyIncreasing (map (λ a. a.0) ids)
to_increasing ids h k lt =
    let number : ActorId → ℕ = λ a. a.0 in
    let d : ActorId = record { 0 = 0 } in
    let long : length (map number ids) ≡ length ids = length-map ids number in
    let low = get_or-map number ids k d 0 (omega (arith, lt, long)) in
    let high = get_or-map number ids (k + 1) d 0 (omega (arith, lt, long)) in
    let less : (get_or ids k d).0 < (get_or ids (k + 1) d).0 = h k (k + 1) d (omega arith) (omega (arith, lt, long)) in
    omega (arith, low, high, less)
