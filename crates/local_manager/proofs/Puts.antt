-- Letters that are put one after the other.
use Rattle.std.proofs.Common.{◌≡◌, ◌≢◌, ℕ, Bool, true, false, cond, nat_eq, Option, List, [], ◌∷◌, ◌++◌, get_or}
use Rattle.std.proofs.Common.{refl, sym, ap, arith, ◌∙◌, subst, append_assoc, Contains}
use Rattle.std.proofs.lemmas.Bool.Decides.{nat_tests}
use Rattle.std.proofs.lemmas.List.{append-nil}
use Rattle.std.proofs.lemmas.List.Elements.{filter-append}
use Rattle.std.proofs.lemmas.List.Folds.{list_any_at}
use Rattle.std.specs.List.{filter}
use Rattle.sim_base.specs.declared.ids.ActorId.{ActorId}
use Rattle.actor_trait.specs.InboxOrder.{is_to}
use Rattle.actor_trait.specs.declared.letter.Letter.{Letter}
use Rattle.inbox_store.specs.Letters.{Letters, list_of}
use Rattle.sim_model.specs.Moment.{is_alive, is_among}
use Rattle.sim_model.proofs.Sameness.{id_same}

-- the letters to one, if it lives
abbrev pub part_of : {A : Type 0} → List (Option A) → ActorId → List Letter → List Letter
part_of states to ls = cond (is_alive states to) (filter (is_to to) ls) []

pub put_living : {A : Type 0} (states : List (Option A)) (before after : Letters) (l : Letter) → is_alive states l.to ≡ true
    → list_of after l.to.0 ≡ list_of before l.to.0 ++ l ∷ [] → ((id : ℕ) → id ≢ l.to.0 → list_of after id ≡ list_of before id)
    → (to : ActorId) → list_of after to.0 ≡ list_of before to.0 ++ part_of states to (l ∷ [])
put_living {A} states before after l lives here others to = by (nat_eq l.to.0 to.0) refl
  where
    by : (b : Bool) → nat_eq l.to.0 to.0 ≡ b → list_of after to.0 ≡ list_of before to.0 ++ part_of states to (l ∷ [])
    by true e =
        let same : l.to ≡ to = id_same l.to to (grind (arith, nat_tests, e)) in
        let alive : is_alive states to ≡ true = subst (λ (a : ActorId). is_alive states a ≡ true) same lives in
        rw (alive, e) (subst (λ (a : ActorId). list_of after a.0 ≡ list_of before a.0 ++ l ∷ []) same here)
    by false e =
        let apart : to.0 ≢ l.to.0 = λ q. let yes : nat_eq l.to.0 to.0 ≡ true = grind (arith, nat_tests, q) in absurd (cc) in
        rw e (others to.0 apart ∙ none (is_alive states to))
      where
        none : (c : Bool) → list_of before to.0 ≡ list_of before to.0 ++ cond c [] []
        none true = sym (append-nil (list_of before to.0))
        none false = sym (append-nil (list_of before to.0))

pub put_dead : {A : Type 0} (states : List (Option A)) (store : Letters) (l : Letter) → is_alive states l.to ≡ false
    → (to : ActorId) → list_of store to.0 ≡ list_of store to.0 ++ part_of states to (l ∷ [])
put_dead {A} states store l dies to = sym (append-nil (list_of store to.0)) ∙ ap (λ (k : List Letter). list_of store to.0 ++ k) (sym none)
  where
    none : part_of states to (l ∷ []) ≡ []
    none = by (nat_eq l.to.0 to.0) (is_alive states to) refl refl
      where
        by : (b c : Bool) → nat_eq l.to.0 to.0 ≡ b → is_alive states to ≡ c → cond c (cond b (l ∷ []) []) [] ≡ []
        by b false e f = refl
        by false true e f = refl
        by true true e f =
            let same : l.to ≡ to = id_same l.to to (grind (arith, nat_tests, e)) in
            let dead : is_alive states to ≡ false = subst (λ (a : ActorId). is_alive states a ≡ false) same dies in
            absurd (cc)

-- more of them
pub part_more : {A : Type 0} (states : List (Option A)) (to : ActorId) (ls more : List Letter) (before box : List Letter) → box ≡ before ++ part_of states to ls
    → box ++ part_of states to more ≡ before ++ part_of states to (ls ++ more)
part_more {A} states to ls more before box e = ap (λ (l : List Letter). l ++ part_of states to more) e ∙ by (is_alive states to)
  where
    by : (b : Bool) → (before ++ cond b (filter (is_to to) ls) []) ++ cond b (filter (is_to to) more) [] ≡ before ++ cond b (filter (is_to to) (ls ++ more)) []
    by true = append_assoc before (filter (is_to to) ls) (filter (is_to to) more)
        ∙ ap (λ (l : List Letter). before ++ l) (sym (filter-append (is_to to) ls more))
    by false = append_assoc before [] []

pub contains_among : (ids : List ActorId) (id : ActorId) → Contains ids id → is_among ids id ≡ true
contains_among ids id h = list_any_at (λ k. nat_eq k.0 id.0) ids h.0 id h.1
    (let same : (get_or ids h.0 id).0 ≡ id.0 = ap (λ k. k.0) h.2 in grind (arith, nat_tests, same))
