-- A row whose entries pass from one hand to another.
use Rattle.std.proofs.Common.{◌≡◌, ◌≢◌, ℕ, zero, suc, ◌+◌, ◌<◌, ◌≤◌, Bool, cond, eqb, List, [], ◌∷◌, map, replicate, length, get_or, set, refl, sym, ap, ◌∙◌, add-one, arith, eq-eqb, ne_eqb}
use mathlib.Core.Logic.{dite}
use native.Mathlib.Decide.{ℕ_discrete}
use Rattle.quiet_core.specs.declared.entry.Entry.{Entry}
use Rattle.quiet_core.specs.declared.entry.Entry.TheVariants as entry
use Rattle.std.proofs.lemmas.List.{map-set}
use lib.ListN.{length-map}
use Rattle.quiet_core.specs.Rows.{blend}
use Rattle.quiet_core.specs.Account.{Mark, free, fresh, told, reported}
use Rattle.quiet_core.specs.Step.{meet}
use Rattle.quiet_core.specs.Entries.{mark_of, marks_of, passed}
use Rattle.quiet_core.proofs.Clearing.{meet_free}

module _ {A : Type 0} (f : A → A) where
  -- the first n places of a row are changed
  abbrev pub map_below : ℕ → List A → List A
  map_below zero a = a
  map_below (suc n) [] = []
  map_below (suc n) (x ∷ xs) = f x ∷ map_below n xs

  pub map_length : (n : ℕ) (a : List A) → length (map_below n a) ≡ length a
  map_length zero a = refl
  map_length (suc n) [] = refl
  map_length (suc n) (x ∷ xs) = let r = map_length n xs in omega arith

  at_same : (n : ℕ) (a : List A) (d : A) → get_or (map_below n a) n d ≡ get_or a n d
  at_same zero a d = refl
  at_same (suc n) [] d = refl
  at_same (suc n) (x ∷ xs) d = at_same n xs d

  set_suc : (n : ℕ) (a : List A) (d : A) → n < length a → set (map_below n a) n (f (get_or a n d)) ≡ map_below (suc n) a
  set_suc n [] d l = absurd (omega arith)
  set_suc zero (x ∷ xs) d l = refl
  set_suc (suc n) (x ∷ xs) d l = ap (λ (r : List A). f x ∷ r) (set_suc n xs d (omega arith))

  pub one_passed : (l a : List A) (n : ℕ) (x v : A) → l ≡ map_below n a → n < length a → x ≡ get_or l n x → v ≡ f x → set l n v ≡ map_below (n + 1) a
  one_passed l a n x v e lt at is = ap (λ (r : List A). set r n v) e
      ∙ ap (λ (y : A). set (map_below n a) n y) (is ∙ ap f (at ∙ ap (λ (r : List A). get_or r n x) e ∙ at_same n a x))
      ∙ set_suc n a x lt ∙ ap (λ (k : ℕ). map_below k a) (sym (add-one n))

  pub all_passed : (n : ℕ) (a : List A) → length a ≤ n → map_below n a ≡ map f a
  all_passed zero [] l = refl
  all_passed zero (x ∷ xs) l = absurd (omega arith)
  all_passed (suc n) [] l = refl
  all_passed (suc n) (x ∷ xs) l = ap (λ (r : List A). f x ∷ r) (all_passed n xs (omega arith))

-- a row of rows that hold their items
module _ {A B : Type 0} (items : A → List B) (f : List B → List B) where
  item_at : (ms : List A) (m : ℕ) (row : A) → row ≡ get_or ms m row → items row ≡ get_or (map items ms) m (items row)
  item_at [] m row e = refl
  item_at (x ∷ xs) zero row e = ap items e
  item_at (x ∷ xs) (suc m) row e = item_at xs m row e

  pub row_passed : (ms l : List A) (m : ℕ) (row new : A) → map items l ≡ map_below f m (map items ms) → m < length ms → row ≡ get_or l m row → items new ≡ f (items row) → map items (set l m new) ≡ map_below f (m + 1) (map items ms)
  row_passed ms l m row new e lt at is = map-set items l m new ∙ one_passed f (map items l) (map items ms) m (items row) (items new) e (let n = length-map ms items in omega arith) (item_at l m row at) is

-- whose mark is it, where an entry of the hand g has passed to h
module _ (g h : ℕ) (ne : g ≢ h) where
  module _ (v : Mark) where
    own_gone : (k : ℕ) → cond (eqb (cond (eqb k g) h k) g) v free ≡ free
    own_gone k = dite (ℕ_discrete k g)
        (λ e. ap (λ (b : Bool). cond (eqb (cond b h k) g) v free) (eq-eqb k g e) ∙ ap (λ (b : Bool). cond b v free) (ne_eqb h g (λ z. ne (sym z))))
        (λ n. ap (λ (b : Bool). cond (eqb (cond b h k) g) v free) (ne_eqb k g n) ∙ ap (λ (b : Bool). cond b v free) (ne_eqb k g n))

    own_taken : (k : ℕ) → cond (eqb (cond (eqb k g) h k) h) v free ≡ meet (cond (eqb k h) v free) (cond (eqb k g) v free)
    own_taken k = dite (ℕ_discrete k g)
        (λ e. ap (λ (b : Bool). cond (eqb (cond b h k) h) v free) (eq-eqb k g e) ∙ ap (λ (b : Bool). cond b v free) (eq-eqb h h refl)
        ∙ sym (ap (λ (b : Bool). meet (cond b v free) (cond (eqb k g) v free)) (ne_eqb k h (λ z. ne (sym e ∙ z))) ∙ ap (λ (b : Bool). cond b v free) (eq-eqb k g e)))
        (λ n. ap (λ (b : Bool). cond (eqb (cond b h k) h) v free) (ne_eqb k g n)
        ∙ sym (ap (λ (b : Bool). meet (cond (eqb k h) v free) (cond b v free)) (ne_eqb k g n) ∙ meet_free (cond (eqb k h) v free)))

    own_else : (j : ℕ) → j ≢ g → j ≢ h → (k : ℕ) → cond (eqb (cond (eqb k g) h k) j) v free ≡ cond (eqb k j) v free
    own_else j ng nh k = dite (ℕ_discrete k g)
        (λ e. ap (λ (b : Bool). cond (eqb (cond b h k) j) v free) (eq-eqb k g e) ∙ ap (λ (b : Bool). cond b v free) (ne_eqb h j (λ z. nh (sym z)))
        ∙ sym (ap (λ (b : Bool). cond b v free) (ne_eqb k j (λ z. ng (sym z ∙ e)))))
        (λ n. ap (λ (b : Bool). cond (eqb (cond b h k) j) v free) (ne_eqb k g n))

  mark_gone : (e : Entry) → mark_of g (passed g h e) ≡ free
  mark_gone entry.Free = refl
  mark_gone (entry.Fresh k) = own_gone fresh k
  mark_gone (entry.Told k n) = own_gone (told n) k
  mark_gone (entry.Reported k) = own_gone reported k

  mark_taken : (e : Entry) → mark_of h (passed g h e) ≡ meet (mark_of h e) (mark_of g e)
  mark_taken entry.Free = refl
  mark_taken (entry.Fresh k) = own_taken fresh k
  mark_taken (entry.Told k n) = own_taken (told n) k
  mark_taken (entry.Reported k) = own_taken reported k

  mark_else : (j : ℕ) → j ≢ g → j ≢ h → (e : Entry) → mark_of j (passed g h e) ≡ mark_of j e
  mark_else j ng nh entry.Free = refl
  mark_else j ng nh (entry.Fresh k) = own_else fresh j ng nh k
  mark_else j ng nh (entry.Told k n) = own_else (told n) j ng nh k
  mark_else j ng nh (entry.Reported k) = own_else reported j ng nh k

  abbrev pub passed_table : List (List Entry) → List (List Entry)
  passed_table table = map (λ row. map (passed g h) row) table

  row_gone : (row : List Entry) → map (mark_of g) (map (passed g h) row) ≡ replicate (length row) free
  row_gone [] = refl
  row_gone (e ∷ es) = let one = mark_gone e in let r = row_gone es in λ i. one i ∷ r i

  row_taken : (row : List Entry) → map (mark_of h) (map (passed g h) row) ≡ blend meet (map (mark_of h) row) (map (mark_of g) row)
  row_taken [] = refl
  row_taken (e ∷ es) = let one = mark_taken e in let r = row_taken es in λ i. one i ∷ r i

  row_else : (j : ℕ) → j ≢ g → j ≢ h → (row : List Entry) → map (mark_of j) (map (passed g h) row) ≡ map (mark_of j) row
  row_else j ng nh [] = refl
  row_else j ng nh (e ∷ es) = let one = mark_else j ng nh e in let r = row_else j ng nh es in λ i. one i ∷ r i

  pub table_gone : (table : List (List Entry)) → marks_of g (passed_table table) ≡ map (λ n. replicate n free) (map length table)
  table_gone [] = refl
  table_gone (row ∷ rows) = let one = row_gone row in let r = table_gone rows in λ i. one i ∷ r i

  pub table_taken : (table : List (List Entry)) → marks_of h (passed_table table) ≡ blend (blend meet) (marks_of h table) (marks_of g table)
  table_taken [] = refl
  table_taken (row ∷ rows) = let one = row_taken row in let r = table_taken rows in λ i. one i ∷ r i

  pub table_else : (j : ℕ) → j ≢ g → j ≢ h → (table : List (List Entry)) → marks_of j (passed_table table) ≡ marks_of j table
  table_else j ng nh [] = refl
  table_else j ng nh (row ∷ rows) = let one = row_else j ng nh row in let r = table_else j ng nh rows in λ i. one i ∷ r i

pub lengths_passed : {A : Type 0} (f : A → A) (table : List (List A)) → map length (map (λ row. map f row) table) ≡ map length table
lengths_passed f [] = refl
lengths_passed f (row ∷ rows) = let one = length-map row f in let r = lengths_passed f rows in λ i. one i ∷ r i

pub lengths_of : {A B : Type 0} (items : A → List B) (ms : List A) → map (λ row. length (items row)) ms ≡ map length (map items ms)
lengths_of items [] = refl
lengths_of items (row ∷ rows) = ap (λ (r : List ℕ). length (items row) ∷ r) (lengths_of items rows)
