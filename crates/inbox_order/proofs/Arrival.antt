-- Inboxes are the same in whatever order their letters come, where no two letters are alike.
use Rattle.std.proofs.Common.{◌≡◌, ◌≢◌, ℕ, suc, zero, ◌<◌, Bool, true, false, not, ◌&&◌, cond, List, [], ◌∷◌, refl, sym, ap, arith, ◌∙◌, length, get_or, Contains}
use Rattle.std.proofs.lemmas.Bool.Decides.{nat_tests}
use Rattle.std.proofs.lemmas.List.Elements.{filter_passes}
use Rattle.std.proofs.lemmas.List.Kept.{AllPairs-filter}
use Rattle.std.proofs.lemmas.List.Sorted.{All-permutation, Contains-permutation, sum_by-IsPermutation}
use Rattle.std.proofs.lemmas.List.Sums.{length-filter}
use Rattle.std.specs.Cmp.{IsStrictWeakOrder, IsTotalOrder}
use Rattle.std.specs.List.{All, AllPairs, filter}
use Rattle.std.specs.List.Sorted.{IsPermutation, ties}
use Rattle.std.specs.Ordering.{is_lt, nat_cmp, ordering_reverse, ordering_then}
use Rattle.std.specs.declared.cmp.Ordering.{Ordering}
use Rattle.std.specs.declared.cmp.Ordering.TheVariants.{Equal, Greater, Less}
use Rattle.sim_base.specs.declared.ids.ActorId.{ActorId}
use Rattle.hash_seed.specs.Keys.{key_cmp}
use Rattle.actor_trait.specs.InboxOrder.{Precedence, AreDistinct, comes_before, in_order, inbox_order, is_to, key_of, letter_cmp, place_all, rank_of}
use Rattle.actor_trait.specs.declared.letter.Letter.{Letter}
use Rattle.actor_trait.proofs.Numbers.{equal_numbers}
use Rattle.inbox_order.proofs.Grouping.{filter_each}
use Rattle.inbox_order.proofs.Letters.{comes_before_ranks, letter_cmp_total}
use Rattle.inbox_order.proofs.Placing.{placed_all, same_placed, stable_place_all}

-- ---- a test that at most one passes

-- what a filter keeps is in the list
pub kept_is_in : {X : Type 0} (p : X → Bool) (xs : List X) (a : X) (w : List X) → filter p xs ≡ a ∷ w → Contains xs a × (p a ≡ true)
kept_is_in p [] a w e = absurd (cc)
kept_is_in {X} p (x ∷ xs) a w e = by (λ h. kept_is_in p xs a w h) (p x) refl e
  where
    by : (filter p xs ≡ a ∷ w → Contains xs a × (p a ≡ true)) → (b : Bool) → p x ≡ b → cond b (x ∷ filter p xs) (filter p xs) ≡ a ∷ w → Contains (x ∷ xs) a × (p a ≡ true)
    by g true h k = let same : x ≡ a = cc in ((0, omega arith, same), sym (ap p same) ∙ h)
    by g false h k = let found = g k in let within : found.0.0 < length xs = found.0.1 in ((suc found.0.0, omega arith, found.0.2), found.1)

-- what passes and is in the list is kept
pub not_lost : {X : Type 0} (p : X → Bool) (xs : List X) (a : X) → Contains xs a → p a ≡ true → filter p xs ≢ []
not_lost p [] a c h = absurd (omega (arith, c.1))
not_lost {X} p (x ∷ xs) a c h = by (λ g. not_lost p xs a g h) c.0 c.1 c.2 (p x) refl
  where
    by : (Contains xs a → filter p xs ≢ []) → (k : ℕ) → k < suc (length xs) → get_or (x ∷ xs) k a ≡ a → (b : Bool) → p x ≡ b → cond b (x ∷ filter p xs) (filter p xs) ≢ []
    by g k low e true f = λ z. absurd (cc)
    by g zero low e false f = let same : x ≡ a = e in absurd (cc)
    by g (suc k) low e false f = g (k, omega arith, e)

only_one : {X : Type 0} (p : X → Bool) (xs : List X) (a b : X) → Contains xs a → p a ≡ true → filter p xs ≡ b ∷ [] → a ≡ b
only_one p [] a b c h e = absurd (cc)
only_one {X} p (x ∷ xs) a b c h e = by (λ g k. only_one p xs a b g h k) (λ g. not_lost p xs a g h) c.0 c.1 c.2 (p x) refl e
  where
    by : (Contains xs a → filter p xs ≡ b ∷ [] → a ≡ b) → (Contains xs a → filter p xs ≢ []) → (k : ℕ) → k < suc (length xs) → get_or (x ∷ xs) k a ≡ a → (d : Bool) → p x ≡ d
        → cond d (x ∷ filter p xs) (filter p xs) ≡ b ∷ [] → a ≡ b
    by g n zero low e true f q = let first : x ≡ b = cc in let same : x ≡ a = e in cc
    by g n zero low e false f q = let same : x ≡ a = e in absurd (cc)
    by g n (suc k) low e true f q = let none : filter p xs ≡ [] = cc in absurd (n (k, omega arith, e) none)
    by g n (suc k) low e false f q = g (k, omega arith, e) q

-- a permutation keeps what at most one passes
same_one : {X : Type 0} (p : X → Bool) (xs ys : List X) → AllPairs (λ x y. p x ≡ true → p y ≡ true → ⊥) xs → IsPermutation xs ys → filter p xs ≡ filter p ys
same_one {X} p xs ys apart perm = by (filter p xs) (filter p ys) refl refl (AllPairs-filter (λ (x y : X). p x ≡ true → p y ≡ true → ⊥) p xs apart) (filter_passes p xs)
  where
    long : length (filter p ys) ≡ length (filter p xs)
    long = length-filter p ys ∙ sum_by-IsPermutation (λ x. cond (p x) 1 0) xs ys perm ∙ sym (length-filter p xs)

    by : (us vs : List X) → filter p xs ≡ us → filter p ys ≡ vs → AllPairs (λ x y. p x ≡ true → p y ≡ true → ⊥) us → All (λ x. p x ≡ true) us → filter p xs ≡ filter p ys
    by [] [] e f h k = e ∙ sym f
    by [] (v ∷ vs) e f h k = let a : length (filter p xs) ≡ 0 = ap length e in let b : length (filter p ys) ≡ suc (length vs) = ap length f in absurd (omega (arith, long))
    by (u ∷ []) [] e f h k = let a : length (filter p xs) ≡ 1 = ap length e in let b : length (filter p ys) ≡ 0 = ap length f in absurd (omega (arith, long))
    by (u ∷ []) (v ∷ []) e f h k =
        let there = kept_is_in p xs u [] e in
        let same : u ≡ v = only_one p ys u v (Contains-permutation xs ys u perm there.0) there.1 f in
        e ∙ ap (λ (x : X). x ∷ []) same ∙ sym f
    by (u ∷ []) (v ∷ w ∷ vs) e f h k = let a : length (filter p xs) ≡ 1 = ap length e in let b : length (filter p ys) ≡ suc (suc (length vs)) = ap length f in absurd (omega (arith, long))
    by (u ∷ t ∷ us) vs e f h k = absurd (h 0 1 u (omega arith) (omega arith) (k 0 u (omega arith)) (k 1 u (omega arith)))

-- ---- letters that tie agree in sender and serial

equal_parts : (o p : Ordering) → ordering_then o p ≡ Equal → (o ≡ Equal) × (p ≡ Equal)
equal_parts Less p e = absurd (cc)
equal_parts Equal p e = (refl, e)
equal_parts Greater p e = absurd (cc)

neither_less : (o : Ordering) → is_lt o ≡ false → is_lt (ordering_reverse o) ≡ false → o ≡ Equal
neither_less Less h k = absurd (cc)
neither_less Equal h k = refl
neither_less Greater h k = absurd (cc)

first_false : (b c : Bool) → (not b && not c) ≡ true → b ≡ false
first_false true c h = sym h
first_false false c h = refl

second_false : (b c : Bool) → (not b && not c) ≡ true → c ≡ false
second_false true c h = absurd (cc)
second_false false true h = sym h
second_false false false h = refl

-- by one order, of two that tie with the same one neither is less
tied : {X : Type 0} (lt : X → X → Bool) → IsStrictWeakOrder lt → (x l k : X) → ties lt x l ≡ true → ties lt x k ≡ true → lt l k ≡ false
tied lt o x l k a b = o.chain l x k (second_false (lt x l) (lt l x) a) (first_false (lt x k) (lt k x) b)

tied_letters : (precedence : Precedence) (x l k : Letter) → ties (comes_before precedence) x l ≡ true → ties (comes_before precedence) x k ≡ true
    → (l.from.0 ≡ k.from.0) × (l.serial ≡ k.serial)
unfolding comes_before
tied_letters precedence x l k a b =
    let up : is_lt (letter_cmp precedence l k) ≡ false = tied (comes_before precedence) (comes_before_ranks precedence) x l k a b in
    let down : is_lt (letter_cmp precedence k l) ≡ false = tied (comes_before precedence) (comes_before_ranks precedence) x k l b a in
    let total : IsTotalOrder (letter_cmp precedence) = letter_cmp_total precedence in
    let equal : letter_cmp precedence l k ≡ Equal = neither_less (letter_cmp precedence l k) up (ap is_lt (sym (total.antisymm k l)) ∙ down) in
    let by_rank = nat_cmp (rank_of precedence l) (rank_of precedence k) in
    let by_key = key_cmp (key_of precedence l) (key_of precedence k) in
    let parts = equal_parts (ordering_then (ordering_then by_rank by_key) (nat_cmp l.from.0 k.from.0)) (nat_cmp l.serial k.serial) equal in
    let front = equal_parts (ordering_then by_rank by_key) (nat_cmp l.from.0 k.from.0) parts.0 in
    (equal_numbers l.from.0 k.from.0 front.1, equal_numbers l.serial k.serial parts.1)

-- ---- the inbox

filter-filter : {X : Type 0} (p q : X → Bool) (xs : List X) → filter p (filter q xs) ≡ filter (λ x. q x && p x) xs
filter-filter p q [] = refl
filter-filter {X} p q (x ∷ xs) = by (filter-filter p q xs) (q x) (p x) refl
  where
    by : filter p (filter q xs) ≡ filter (λ y. q y && p y) xs → (b c : Bool) → p x ≡ c
        → filter p (cond b (x ∷ filter q xs) (filter q xs)) ≡ cond (b && c) (x ∷ filter (λ y. q y && p y) xs) (filter (λ y. q y && p y) xs)
    by g true true e = rw (e, g)
    by g true false e = rw (e, g)
    by g false c e = g

both_true : (b c : Bool) → (b && c) ≡ true → (b ≡ true) × (c ≡ true)
both_true true true h = (refl, refl)
both_true true false h = absurd (cc)
both_true false c h = absurd (cc)

pub same_inbox : (precedence : Precedence) (a : ActorId) (xs ys : List Letter) → AreDistinct xs → IsPermutation xs ys → inbox_order xs a precedence ≡ inbox_order ys a precedence
unfolding in_order
same_inbox precedence a xs ys distinct perm =
    same_placed lt o (place_all lt [] (filter (is_to a) xs)) (place_all lt [] (filter (is_to a) ys)) (placed_all lt o [] (filter (is_to a) xs) tt) (placed_all lt o [] (filter (is_to a) ys) tt)
    (λ x. stable_place_all lt o (filter (is_to a) xs) x ∙ filter-filter (ties lt x) (is_to a) xs ∙ same_one (λ l. is_to a l && ties lt x l) xs ys (alone x) perm
    ∙ sym (filter-filter (ties lt x) (is_to a) ys) ∙ sym (stable_place_all lt o (filter (is_to a) ys) x))
  where
    lt : Letter → Letter → Bool
    lt = comes_before precedence

    o : IsStrictWeakOrder (comes_before precedence)
    o = comes_before_ranks precedence

    alone : (x : Letter) → AllPairs (λ l k. (is_to a l && ties (comes_before precedence) x l) ≡ true → (is_to a k && ties (comes_before precedence) x k) ≡ true → ⊥) xs
    alone x i j d low high p q =
        let l : Letter = get_or xs i d in
        let k : Letter = get_or xs j d in
        let first = both_true (is_to a (get_or xs i d)) (ties (comes_before precedence) x (get_or xs i d)) p in
        let second = both_true (is_to a (get_or xs j d)) (ties (comes_before precedence) x (get_or xs j d)) q in
        let to_l : is_to a (get_or xs i d) ≡ true = first.0 in
        let to_k : is_to a (get_or xs j d) ≡ true = second.0 in
        let same = tied_letters precedence x (get_or xs i d) (get_or xs j d) first.1 second.1 in
        let one : (get_or xs i d).to.0 ≡ (get_or xs j d).to.0 = grind (arith, nat_tests) in
        distinct i j d low high (one, same.0, same.1)

-- letters to one are all in its inbox, in whatever order they came
pub same_order : (precedence : Precedence) (to : ActorId) (xs ys : List Letter) → AreDistinct xs → All (λ l. l.to ≡ to) xs → IsPermutation xs ys
    → in_order precedence xs ≡ in_order precedence ys
same_order precedence to xs ys distinct one perm =
    let mine : (l : Letter) → l.to ≡ to → is_to to l ≡ true = λ l e. let same : l.to.0 ≡ to.0 = ap (λ (a : ActorId). a.0) e in grind (arith, nat_tests) in
    let all_xs : filter (is_to to) xs ≡ xs = filter_each (is_to to) xs (λ k d h. mine (get_or xs k d) (one k d h)) in
    let all_ys : filter (is_to to) ys ≡ ys = filter_each (is_to to) ys (λ k d h.
    mine (get_or ys k d) (All-permutation (λ (l : Letter). l.to ≡ to) xs ys perm one k d h)) in
    ap (in_order precedence) (sym all_xs) ∙ same_inbox precedence to xs ys distinct perm ∙ ap (in_order precedence) all_ys
