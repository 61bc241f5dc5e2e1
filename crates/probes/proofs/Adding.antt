-- The rows of a later event go behind those that are there.
use Rattle.std.proofs.Common.{◌≡◌, ◌-◌, ◌<◌, true, false, List, [], ◌∷◌, ◌++◌, map, length, get_or, slice_get, Option, Some}
use Rattle.std.proofs.Common.{Result, Ok, Err, OnOk, OnErr, sym, subst, arith, append_assoc}
use Rattle.std.specs.List.Sorted.{IsSortedBy}
use Rattle.std.specs.Option.{option_map_or}
use Rattle.std.proofs.lemmas.List.{append-nil, get_or_push, length_push}
use Rattle.std.proofs.lemmas.List.Kept.{IsSortedBy-push}
use Rattle.std.proofs.lemmas.Option.{slice_get-get_or}
use Rattle.sim_base.specs.declared.ids.ActorId.{ActorId}
use Rattle.sim_base.specs.declared.moment.Moment.{Moment}
use Rattle.sim_base.specs.declared.moment.Row.{Row}
use Rattle.actor_trait.specs.declared.outcome.Sample.{Sample}
use Rattle.probes.specs.LiveOrder.{comes_before, ends_before, is_before, row_of}
use Rattle.probes.proofs.Events.{not_itself, ranks}

-- no row of the event comes before the last that is there
abbrev Follows : List Row → Moment → ActorId → Type 0
Follows rows at actor = (s : Sample) (d : Row) → 0 < length rows → comes_before (row_of at actor s) (get_or rows (length rows - 1) d) ≡ false

one_event : (at : Moment) (actor : ActorId) (s t : Sample) → comes_before (row_of at actor s) (row_of at actor t) ≡ false
unfolding is_before
one_event at actor s t = not_itself (row_of at actor s)

follows_push : (rows : List Row) (at : Moment) (actor : ActorId) (t : Sample) → Follows (rows ++ row_of at actor t ∷ []) at actor
follows_push rows at actor t s d some =
    let place : length rows ≡ length (rows ++ row_of at actor t ∷ []) - 1 = omega (arith, length_push rows (row_of at actor t)) in
    rw (get_or_push rows (row_of at actor t) d _ place) (one_event at actor s t)

pub follows_last : (rows : List Row) (at : Moment) (actor : ActorId) → ends_before rows at actor ≡ true → Follows rows at actor
follows_last rows at actor h s d some =
    let last : slice_get rows (length rows - 1) ≡ Some (get_or rows (length rows - 1) d) = slice_get-get_or rows (length rows - 1) d (omega arith) in
    let earlier : comes_before (get_or rows (length rows - 1) d) (row_of at actor s) ≡ true =
    subst (λ (o : Option Row). option_map_or (λ r. is_before r at actor) o true ≡ true) last h in
    ranks.one_way (get_or rows (length rows - 1) d) (row_of at actor s) earlier

pub sorted_added : (rows : List Row) (at : Moment) (actor : ActorId) (ss : List Sample) → IsSortedBy comes_before rows → Follows rows at actor
    → IsSortedBy comes_before (rows ++ map (row_of at actor) ss)
sorted_added rows at actor [] sorted follows = subst (IsSortedBy comes_before) (sym (append-nil rows)) sorted
sorted_added rows at actor (s ∷ ss) sorted follows =
    subst (IsSortedBy comes_before) (append_assoc rows (row_of at actor s ∷ []) (map (row_of at actor) ss))
    (sorted_added (rows ++ row_of at actor s ∷ []) at actor ss (IsSortedBy-push comes_before rows (row_of at actor s) sorted (λ d some. follows s d some)) (follows_push rows at actor s))

-- what was appended to, or left as it was, stands in order
pub sorted_either : {T E : Type 0} (result : Result T E) (old new : List Row) (at : Moment) (actor : ActorId) (ss : List Sample)
    → IsSortedBy comes_before old → ends_before old at actor ≡ true → OnOk result (new ≡ old ++ map (row_of at actor) ss) → OnErr result (new ≡ old) → IsSortedBy comes_before new
sorted_either (Ok done) old new at actor ss sorted later ok err =
    subst (IsSortedBy comes_before) (sym ok) (sorted_added old at actor ss sorted (follows_last old at actor later))
sorted_either (Err refused) old new at actor ss sorted later ok err = subst (IsSortedBy comes_before) (sym err) sorted
