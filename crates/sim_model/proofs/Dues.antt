-- A set of pairs in order is an agenda.
use Rattle.std.proofs.Common.{◌≡◌, ◌<◌, true, false, not, cond, List, [], ◌∷◌, length, arith, refl, sym, ap}
use Rattle.std.specs.BTreeSet.{insert_key}
use Rattle.std.specs.List.{filter}
use Rattle.std.specs.Ordering.{MatchOrdering, match_ordering, nat_cmp, ordering_then}
use Rattle.std.specs.declared.cmp.Ordering.{Ordering}
use Rattle.std.specs.declared.cmp.Ordering.TheVariants.{Less, Equal, Greater}
use Rattle.std.proofs.lemmas.Bool.Decides.{nat_tests}
use Rattle.std.proofs.lemmas.Cmp.{ranked}
use Rattle.sim_base.specs.declared.ids.ActorId.{ActorId}
use Rattle.agenda.specs.Dues.{add_due, comes_before}
use Rattle.agenda.specs.declared.due.Due.{Due}
use Rattle.sim_model.specs.Moment.{is_among}

-- by tick, then by actor
abbrev pub due_cmp : Due → Due → Ordering
due_cmp d x = ordering_then (nat_cmp d.tick x.tick) (nat_cmp d.actor.0 x.actor.0)

-- a pair that is put in at its place is added
pub insert_adds : (d : Due) (ds : List Due) → insert_key due_cmp ds d ≡ add_due d ds
insert_adds d [] = refl
insert_adds d (x ∷ xs) =
    placed (nat_cmp d.tick x.tick) (nat_cmp d.actor.0 x.actor.0) (ranked d.tick x.tick _ refl) (ranked d.actor.0 x.actor.0 _ refl)
    (insert_adds d xs) where
      placed : (o p : Ordering) → MatchOrdering o (d.tick < x.tick) (d.tick ≡ x.tick) (x.tick < d.tick)
          → MatchOrdering p (d.actor.0 < x.actor.0) (d.actor.0 ≡ x.actor.0) (x.actor.0 < d.actor.0) → insert_key due_cmp xs d ≡ add_due d xs
          → match_ordering (ordering_then o p) (d ∷ x ∷ xs) (x ∷ xs) (x ∷ insert_key due_cmp xs d)
          ≡ cond (comes_before d x) (d ∷ x ∷ xs) (cond (comes_before x d) (x ∷ add_due d xs) (x ∷ xs))
      placed Less p m n more = let first : comes_before d x ≡ true = grind (arith, nat_tests, m) in rw first refl
      placed Equal Less m n more = let first : comes_before d x ≡ true = grind (arith, nat_tests, m, n) in rw first refl
      placed Equal Equal m n more =
          let first : comes_before d x ≡ false = grind (arith, nat_tests, m, n) in
          let second : comes_before x d ≡ false = grind (arith, nat_tests, m, n) in
          rw (first, second) refl
      placed Equal Greater m n more =
          let first : comes_before d x ≡ false = grind (arith, nat_tests, m, n) in
          let second : comes_before x d ≡ true = grind (arith, nat_tests, m, n) in
          rw (first, second) (ap (λ l. x ∷ l) more)
      placed Greater p m n more =
          let first : comes_before d x ≡ false = grind (arith, nat_tests, m) in
          let second : comes_before x d ≡ true = grind (arith, nat_tests, m) in
          rw (first, second) (ap (λ l. x ∷ l) more)

-- where nobody is among the actors, all stays
all_kept : (ds : List Due) → filter (λ d. not (is_among [] d.actor)) ds ≡ ds
all_kept [] = refl
all_kept (d ∷ ds) = ap (λ l. d ∷ l) (all_kept ds)

pub all_kept_by : (ids : List ActorId) (ds : List Due) → length ids ≡ 0 → ds ≡ filter (λ d. not (is_among ids d.actor)) ds
all_kept_by [] ds e = sym (all_kept ds)
all_kept_by (id ∷ ids) ds e = absurd (omega (arith, e))
