-- The lists of a store, one after the other, have in each inbox what the list of its recipient has.
use Rattle.std.proofs.Common.{◌≡◌, ◌≢◌, ℕ, suc, zero, ◌+◌, ◌<◌, true, false, List, [], ◌∷◌, ◌++◌, get_or, refl, sym, ap, arith, ◌∙◌, subst}
use Rattle.std.proofs.lemmas.Bool.Decides.{nat_tests}
use Rattle.std.proofs.lemmas.List.{append-nil}
use Rattle.std.proofs.lemmas.List.Elements.{filter-append, All-head, All-tail}
use Rattle.std.specs.List.{All, filter, flat_map}
use Rattle.sim_base.specs.declared.ids.ActorId.{ActorId}
use Rattle.actor_trait.specs.InboxOrder.{is_to}
use Rattle.actor_trait.specs.declared.letter.Letter.{Letter}
use Rattle.inbox_store.specs.Letters.{Letters, list_of}
use Rattle.local_manager.specs.Mail.{IsAddressed}

-- what goes to one alone
pub to_all : (to : ActorId) (ls : List Letter) → All (λ l. is_to to l ≡ true) ls → filter (is_to to) ls ≡ ls
to_all to [] h = refl
to_all to (l ∷ ls) h =
    rw (All-head (λ (l : Letter). is_to to l ≡ true) l ls h)
    (ap (λ (k : List Letter). l ∷ k) (to_all to ls (All-tail (λ (l : Letter). is_to to l ≡ true) l ls h)))

pub to_none : (to other : ActorId) (ls : List Letter) → other.0 ≢ to.0 → All (λ l. is_to other l ≡ true) ls → filter (is_to to) ls ≡ []
to_none to other [] n h = refl
to_none to other (l ∷ ls) n h =
    let its : is_to other l ≡ true = All-head (λ (l : Letter). is_to other l ≡ true) l ls h in
    let no : is_to to l ≡ false = grind (arith, nat_tests, its, n) in
    rw no (to_none to other ls n (All-tail (λ (l : Letter). is_to other l ≡ true) l ls h))

-- the lists from a number on
abbrev AllFrom : ℕ → List (List Letter) → Type 0
AllFrom k [] = Unit {0}
AllFrom k (p ∷ ps) = All (λ l. is_to (record { 0 = k }) l ≡ true) p × AllFrom (suc k) ps

all_from : (k : ℕ) (ps : List (List Letter)) → ((i : ℕ) → All (λ l. is_to (record { 0 = k + i }) l ≡ true) (get_or ps i [])) → AllFrom k ps
all_from k [] h = tt
all_from k (p ∷ ps) h =
    let same : k + 0 ≡ k = omega arith in (
      subst (λ (n : ℕ). All (λ l. is_to (record { 0 = n }) l ≡ true) p) same (h 0),
      all_from (suc k) ps (λ i. let next : k + suc i ≡ suc k + i = omega arith in
          subst (λ (n : ℕ). All (λ l. is_to (record { 0 = n }) l ≡ true) (get_or ps i [])) next (h (suc i))),
    )

below_from : (k : ℕ) (ps : List (List Letter)) (to : ActorId) → AllFrom k ps → to.0 < k → filter (is_to to) (flat_map (λ l. l) ps) ≡ []
below_from k [] to h lt = refl
below_from k (p ∷ ps) to h lt =
    let apart : k ≢ to.0 = λ e. absurd (omega (arith, e, lt)) in
    filter-append (is_to to) p (flat_map (λ l. l) ps)
    ∙ ap (λ (l : List Letter). l ++ filter (is_to to) (flat_map (λ l. l) ps)) (to_none to (record { 0 = k }) p apart h.0)
    ∙ below_from (suc k) ps to h.1 (omega (arith, lt))

at_from : (k i : ℕ) (ps : List (List Letter)) (to : ActorId) → AllFrom k ps → to.0 ≡ k + i → filter (is_to to) (flat_map (λ l. l) ps) ≡ get_or ps i []
at_from k i [] to h e = refl
at_from k zero (p ∷ ps) to h e =
    let here : k ≡ to.0 = omega (arith, e) in
    let mine : All (λ l. is_to to l ≡ true) p = subst (λ (n : ℕ). All (λ l. is_to (record { 0 = n }) l ≡ true) p) here h.0 in
    filter-append (is_to to) p (flat_map (λ l. l) ps)
    ∙ ap (λ (l : List Letter). l ++ filter (is_to to) (flat_map (λ l. l) ps)) (to_all to p mine)
    ∙ ap (λ (l : List Letter). p ++ l) (below_from (suc k) ps to h.1 (omega (arith, e)))
    ∙ append-nil p
at_from k (suc i) (p ∷ ps) to h e =
    let apart : k ≢ to.0 = λ q. absurd (omega (arith, q, e)) in
    filter-append (is_to to) p (flat_map (λ l. l) ps)
    ∙ ap (λ (l : List Letter). l ++ filter (is_to to) (flat_map (λ l. l) ps)) (to_none to (record { 0 = k }) p apart h.0)
    ∙ at_from (suc k) i ps to h.1 (omega (arith, e))

-- the letters to one among all lists are its list
pub boxed : (store : Letters) (to : ActorId) → IsAddressed store → filter (is_to to) (flat_map (λ l. l) store.lists) ≡ list_of store to.0
boxed store to h =
    at_from 0 to.0 store.lists to (all_from 0 store.lists (λ i. let same : 0 + i ≡ i = omega arith in
    subst (λ (n : ℕ). All (λ l. is_to (record { 0 = n }) l ≡ true) (get_or store.lists i [])) (sym same) (h (record { 0 = i })))) (omega arith)
