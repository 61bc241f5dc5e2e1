-- Ascending lists with the same actors are the same.
use Rattle.std.proofs.Common.{◌≡◌, ◌<◌, Bool, true, false, ◌||◌, nat_eq, nat_lt, List, [], ◌∷◌, arith, refl, ap, sym, ◌∙◌}
use Rattle.std.specs.List.{All}
use Rattle.std.proofs.lemmas.Bool.Decides.{nat_tests}
use Rattle.std.proofs.lemmas.List.Elements.{All-head, All-tail, All-weaker}
use Rattle.sim_base.specs.declared.ids.ActorId.{ActorId}
use Rattle.sim_model.specs.Moment.{is_among}
use Rattle.sim_model.specs.Setups.{Ascend}
use Rattle.sim_model.proofs.Ascending.{pairs_head, pairs_tail}

not_below : (ids : List ActorId) (id : ActorId) → All (λ k. id.0 < k.0) ids → is_among ids id ≡ false
not_below [] id h = refl
not_below (k ∷ ids) id h =
    let apart : nat_eq k.0 id.0 ≡ false = grind (arith, nat_tests, All-head (λ k. id.0 < k.0) k ids h) in
    rw apart (not_below ids id (All-tail (λ k. id.0 < k.0) k ids h))

pub itself : (ids : List ActorId) (id : ActorId) → is_among (id ∷ ids) id ≡ true
itself ids id = let same : nat_eq id.0 id.0 ≡ true = grind (arith, nat_tests) in rw same refl

passed_over : (ids : List ActorId) (x id : ActorId) → Ascend (x ∷ ids) → id.0 < x.0 → is_among (x ∷ ids) id ≡ false
passed_over ids x id h lt =
    let apart : nat_eq x.0 id.0 ≡ false = grind (arith, nat_tests, lt) in
    rw apart (not_below ids id
    (All-weaker (λ k. x.0 < k.0) (λ k. id.0 < k.0) (λ k more. omega (arith, lt, more)) ids (pairs_head (λ a b. a.0 < b.0) x ids h)))

first_same : (x y : ActorId) (xs ys : List ActorId) → Ascend (x ∷ xs) → Ascend (y ∷ ys)
    → ((id : ActorId) → is_among (x ∷ xs) id ≡ is_among (y ∷ ys) id) → x.0 ≡ y.0
first_same x y xs ys h k same = told (nat_lt x.0 y.0) (nat_lt y.0 x.0) refl refl where
  told : (b c : Bool) → nat_lt x.0 y.0 ≡ b → nat_lt y.0 x.0 ≡ c → x.0 ≡ y.0
  told true c e f =
      let none = passed_over ys y x k (grind (arith, nat_tests, e)) in
      let some = sym (itself xs x) ∙ same x ∙ none in
      cc
  told false true e f =
      let none = passed_over xs x y h (grind (arith, nat_tests, f)) in
      let some = sym (itself ys y) ∙ sym (same y) ∙ none in
      cc
  told false false e f = grind (arith, nat_tests, e, f)

rest_same : (x : ActorId) (xs ys : List ActorId) → All (λ k. x.0 < k.0) xs → All (λ k. x.0 < k.0) ys
    → ((id : ActorId) → is_among (x ∷ xs) id ≡ is_among (x ∷ ys) id)
    → (id : ActorId) → is_among xs id ≡ is_among ys id
rest_same x xs ys h k same id = told (nat_eq x.0 id.0) refl (same id) where
  told : (b : Bool) → nat_eq x.0 id.0 ≡ b → (b || is_among xs id) ≡ (b || is_among ys id) → is_among xs id ≡ is_among ys id
  told true e s =
      let number : x.0 ≡ id.0 = grind (arith, nat_tests, e) in
      not_below xs id (All-weaker (λ k. x.0 < k.0) (λ k. id.0 < k.0) (λ k lt. omega (arith, lt, number)) xs h)
      ∙ sym (not_below ys id (All-weaker (λ k. x.0 < k.0) (λ k. id.0 < k.0) (λ k lt. omega (arith, lt, number)) ys k))
  told false e s = s

pub id_same : (x y : ActorId) → x.0 ≡ y.0 → x ≡ y
id_same x y e = ap (λ n. record { 0 = n }) e

pub same_ids : (xs ys : List ActorId) → Ascend xs → Ascend ys → ((id : ActorId) → is_among xs id ≡ is_among ys id) → xs ≡ ys
same_ids [] [] h k same = refl
same_ids [] (y ∷ ys) h k same = let e = same y ∙ itself ys y in cc
same_ids (x ∷ xs) [] h k same = let e = sym (same x) ∙ itself xs x in cc
same_ids (x ∷ xs) (y ∷ ys) h k same =
    let e : x ≡ y = id_same x y (first_same x y xs ys h k same) in
    let above : All (λ k. x.0 < k.0) xs = pairs_head (λ a b. a.0 < b.0) x xs h in
    let below : All (λ k. x.0 < k.0) ys = rw e (pairs_head (λ a b. a.0 < b.0) y ys k) in
    let also : (id : ActorId) → is_among (x ∷ xs) id ≡ is_among (x ∷ ys) id = λ id. same id ∙ ap (λ z. is_among (z ∷ ys) id) (sym e) in
    let rest = same_ids xs ys (pairs_tail (λ a b. a.0 < b.0) x xs h) (pairs_tail (λ a b. a.0 < b.0) y ys k) (rest_same x xs ys above below also) in
    ap (λ l. x ∷ l) rest ∙ ap (λ z. z ∷ ys) e
