-- What a search among urgent senders finds.
use Rattle.std.proofs.Common.{◌≡◌, ◌≢◌, ℕ, ◌+◌, ◌<◌, Bool, true, false, ◌==◌, nat_lt, List, Ok, Err, Result, refl, sym, arith, length, get_or, map}
use Rattle.std.proofs.lemmas.Bool.Decides.{nat_tests}
use Rattle.std.proofs.lemmas.Cmp.{nat_cmp_total}
use Rattle.std.proofs.lemmas.List.{get_or-map, length-map}
use Rattle.std.proofs.lemmas.List.Folds.{list_any_at, list_any_none}
use Rattle.std.proofs.lemmas.List.Sorted.{searchable_from_sorted}
use Rattle.std.specs.List.{list_any}
use Rattle.std.specs.List.Sorted.{IsBinarySearchResult, IsNonDecreasingBy, IsPartitionPoint, IsSearchInRange}
use Rattle.std.specs.Ordering.{nat_cmp, ordering_index}
use Rattle.std.specs.Result.{is_ok}
use Rattle.std.specs.declared.cmp.Ordering.TheVariants.{Greater, Less}
use Rattle.sim_base.specs.declared.ids.ActorId.{ActorId}
use Rattle.actor_trait.specs.InboxOrder.{AreUrgent}
use Rattle.actor_trait.proofs.Numbers.{equal_numbers, not_less, unequal_greater, unequal_less}

nobody : ActorId
nobody = record { 0 = 0 }

ascending : (urgent : List ActorId) → AreUrgent urgent → (k : ℕ) (d : ActorId) → k + 1 < length urgent
    → (get_or urgent k d).0 < (get_or urgent (k + 1) d).0
ascending urgent up k d b =
    let number : ActorId → ℕ = λ a. a.0 in
    let long : length (map number urgent) ≡ length urgent = length-map urgent number in
    let low : get_or (map number urgent) k 0 ≡ (get_or urgent k d).0 = get_or-map number urgent k d 0 (omega arith) in
    let high : get_or (map number urgent) (k + 1) 0 ≡ (get_or urgent (k + 1) d).0 = get_or-map number urgent (k + 1) d 0 b in
    let less : get_or (map number urgent) k 0 < get_or (map number urgent) (k + 1) 0 = up k (omega arith) in
    omega arith

searchable : (urgent : List ActorId) (a : ActorId) → AreUrgent urgent → IsNonDecreasingBy (λ u. ordering_index (nat_cmp u.0 a.0)) urgent
searchable urgent a up =
    let number : ActorId → ℕ = λ u. u.0 in
    searchable_from_sorted nat_cmp_total number urgent a.0 (λ k d low b. not_less (get_or urgent k d).0 (get_or urgent (k + 1) d).0 (ascending urgent up k d b))

none_equal : (urgent : List ActorId) (a : ActorId) (at : ℕ)
    → IsPartitionPoint (λ u. nat_cmp u.0 a.0 ≡ Less) (λ u. nat_cmp u.0 a.0 ≡ Greater) urgent at → list_any (λ u. u.0 == a.0) urgent ≡ false
none_equal urgent a at split = list_any_none (λ (u : ActorId). u.0 == a.0) urgent (λ k d within. unlike k d within (nat_lt k at) refl)
  where
    unlike : (k : ℕ) (d : ActorId) → k < length urgent → (b : Bool) → nat_lt k at ≡ b → ((get_or urgent k d).0 == a.0) ≡ false
    unlike k d within true h =
        let apart : (get_or urgent k d).0 ≢ a.0 = unequal_less (get_or urgent k d).0 a.0 (split.0 k d (omega arith) (grind (arith, nat_tests))) in
        grind (arith, nat_tests)
    unlike k d within false h =
        let apart : (get_or urgent k d).0 ≢ a.0 = unequal_greater (get_or urgent k d).0 a.0 (split.1 k d (grind (arith, nat_tests)) within) in
        grind (arith, nat_tests)

-- whether the search finds the sender is whether it is urgent
pub searched_urgent : (urgent : List ActorId) (a : ActorId) (r : Result ℕ ℕ) → AreUrgent urgent → IsSearchInRange r (length urgent)
    → IsBinarySearchResult (λ u. nat_cmp u.0 a.0) urgent r → is_ok r ≡ list_any (λ u. u.0 == a.0) urgent
searched_urgent urgent a (Ok at) up within equal =
    let same : (get_or urgent at a).0 ≡ a.0 = equal_numbers (get_or urgent at a).0 a.0 (equal a) in
    sym (list_any_at (λ (u : ActorId). u.0 == a.0) urgent at a within (grind (arith, nat_tests)))
searched_urgent urgent a (Err at) up within split = sym (none_equal urgent a at (split (searchable urgent a up)))
