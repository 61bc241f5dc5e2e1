-- What an agenda is after each of its calls.
use Rattle.std.proofs.Common.{◌≡◌, ◌≢◌, ℕ, ◌+◌, ◌≤◌, ◌%◌, Bool, true, not, min, nat_eq, count_by, replicate, List, []}
use Rattle.std.proofs.Common.{length, get_or, Option, Some, None, refl, sym, ap, ◌∙◌, subst, inl, inr, arith}
use Rattle.std.specs.List.{filter}
use Rattle.std.proofs.lemmas.Bool.Decides.{nat_tests}
use Rattle.std.proofs.lemmas.List.{get_or-replicate, length-replicate}
use Rattle.agenda.specs.declared.due.Due.{Due}
use Rattle.agenda.specs.Dues.{add_due, least}
use Rattle.agenda_wheel.specs.Kept.{is_free, KeepsLeasts, IsWhole}
use Rattle.agenda_wheel.specs.Nodes.{nil}
use Rattle.agenda_wheel.specs.Seen.{IsLeastBelow}
use Rattle.agenda_wheel.specs.Slots.{sorted, Distinct}
use Rattle.agenda_wheel.specs.Wheel.{pair_at, pairs_of, Sound}
use Rattle.agenda_wheel.specs.declared.links.Node.{Node}
use Rattle.agenda_wheel.proofs.Firsts.{all_least, floor_least}
use Rattle.agenda_wheel.proofs.Freeing.{map_get}
use Rattle.agenda_wheel.proofs.Growing.{empty_sound}
use Rattle.agenda_wheel.proofs.Sets.{Has, has_add, has_filter, rises_sorted, has_slot, slot_has}
use Rattle.std.proofs.lemmas.Option.{none-some}

pub above : (ns : List Node) (low : ℕ) → ((x : ℕ) (d : Due) → pair_at ns x ≡ Some d → low ≤ d.tick) → (y : Due) → Has y (sorted (pairs_of ns))
    → low ≤ y.tick
above ns low h y t = let m = has_slot y (pairs_of ns) t in h m.0 y (sym (map_get ns m.0) ∙ m.1)

pub at_all : (ns : List Node) (low : ℕ) → ((y : Due) → Has y (sorted (pairs_of ns)) → low ≤ y.tick) → (x : ℕ) (d : Due) → pair_at ns x ≡ Some d
    → low ≤ d.tick
at_all ns low h x d e = h d (slot_has d (pairs_of ns) x (map_get ns x ∙ e))

-- some pairs have left
pub whole_less : (ns ns' : List Node) (ts ts' hs hs' : List ℕ) (ls ls' : List (Option ℕ)) (low low' free n : ℕ) (p : Due → Bool)
    → IsWhole ns ts hs ls low free
    → Sound ns' ts' hs' → Distinct (pairs_of ns') → KeepsLeasts (sorted (pairs_of ns')) ls' → length hs' ≡ length hs
    → sorted (pairs_of ns') ≡ filter p (sorted (pairs_of ns)) → count_by is_free (pairs_of ns') ≡ count_by is_free (pairs_of ns) + n
    → ((t : Due) → low ≤ t.tick → p t ≡ true → low' ≤ t.tick) → IsWhole ns' ts' hs' ls' low' (free + n)
whole_less ns ns' ts ts' hs hs' ls ls' low low' free n p w sound apart leasts size left count higher =
    let f = w.spare in
    let l = w.lists in
    record {
      sound = sound;
      apart = apart;
      lists = omega (arith, l, size);
      leasts = leasts;
      floor = at_all ns' low' (λ y h. let m = has_filter p y (sorted (pairs_of ns)) (subst (Has y) left h) in
          higher y (above ns low w.floor y m.0) m.1);
      spare = omega (arith, f, count);
    }

pub not_tick : (t : ℕ) (d : Due) → not (nat_eq d.tick t) ≡ true → d.tick ≢ t
not_tick t d h e = let f : nat_eq d.tick t ≡ true = grind (arith, nat_tests, e) in grind (arith, h, f)

-- a pair more
pub whole_more : (ns ns' : List Node) (ts ts' hs hs' : List ℕ) (ls ls' : List (Option ℕ)) (low free spare : ℕ) (d : Due)
    → IsWhole ns ts hs ls low free
    → Sound ns' ts' hs' → Distinct (pairs_of ns') → KeepsLeasts (sorted (pairs_of ns')) ls' → length hs' ≡ length hs
    → sorted (pairs_of ns') ≡ add_due d (sorted (pairs_of ns)) → spare ≡ count_by is_free (pairs_of ns')
    → IsWhole ns' ts' hs' ls' (min low d.tick) spare
whole_more ns ns' ts ts' hs hs' ls ls' low free spare d w sound apart leasts size more count =
    let l = w.lists in
    record {
      sound = sound;
      apart = apart;
      lists = omega (arith, l, size);
      leasts = leasts;
      floor = at_all ns' (min low d.tick) (λ y h. elim (has_add y d (sorted (pairs_of ns)) (subst (Has y) more h)) [
        | inl e ↦ let f = ap (λ (z : Due). z.tick) e in omega (arith, f)
        | inr t ↦ let f = above ns low w.floor y t in omega (arith, f)
      ]);
      spare = count;
    }

-- free nodes more
pub whole_grown : (ns ns' : List Node) (ts hs hs' : List ℕ) (ls : List (Option ℕ)) (low free n : ℕ) → IsWhole ns ts hs ls low free
    → Sound ns' ts hs' → Distinct (pairs_of ns') → length hs ≤ length hs'
    → sorted (pairs_of ns') ≡ sorted (pairs_of ns) → count_by is_free (pairs_of ns') ≡ count_by is_free (pairs_of ns) + n
    → IsWhole ns' ts hs' ls low (free + n)
whole_grown ns ns' ts hs hs' ls low free n w sound apart size same count =
    let l = w.lists in
    let f = w.spare in
    record {
      sound = sound;
      apart = apart;
      lists = omega (arith, l, size);
      leasts = subst (λ dues. KeepsLeasts dues ls) (sym same) w.leasts;
      floor = at_all ns' low (λ y h. above ns low w.floor y (subst (Has y) same h));
      spare = omega (arith, f, count);
    }

nothing : Option ℕ
nothing = None

pub whole_empty : (low : ℕ) → IsWhole [] (replicate 1024 nil) (replicate 2 nil) (replicate 1024 None) low 0
unfolding nothing
whole_empty low = record {
  sound = empty_sound 2;
  apart = λ i j d p q. absurd (none-some d p);
  lists = let e = length-replicate 2 nil in omega (arith, e);
  leasts = record { size = length-replicate 1024 nothing; right = λ b small. get_or-replicate 1024 b nothing nothing small };
  floor = λ x d h. absurd (none-some d h);
  spare = refl;
}

-- the floor, where its bucket has it
pub floor_is : (ns : List Node) (ts hs : List ℕ) (ls : List (Option ℕ)) (low free : ℕ) → IsWhole ns ts hs ls low free
    → get_or ls (low % 1024) None ≡ Some low → Some low ≡ least (sorted (pairs_of ns))
floor_is ns ts hs ls low free w e = floor_least (sorted (pairs_of ns)) ls low (rises_sorted (pairs_of ns)) w.leasts (above ns low w.floor) e

pub least_is : (ns : List Node) (ts hs : List ℕ) (ls : List (Option ℕ)) (low free : ℕ) (o : Option ℕ) → IsWhole ns ts hs ls low free
    → IsLeastBelow ls (length ls) o → o ≡ least (sorted (pairs_of ns))
least_is ns ts hs ls low free o w h = all_least (sorted (pairs_of ns)) ls o (rises_sorted (pairs_of ns)) w.leasts
    (subst (λ n. IsLeastBelow ls n o) w.leasts.size h)
