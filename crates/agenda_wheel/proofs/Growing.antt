-- One free node more, and longer heads.
use Rattle.std.proofs.Common.{◌≡◌, ◌≢◌, ℕ, zero, suc, ◌+◌, ◌-◌, ◌<◌, ◌≤◌, false, cond, nat_lt, count_by, replicate, List}
use Rattle.std.proofs.Common.{[], ◌∷◌, ◌++◌, length, get_or, Option, Some, None, refl, sym, ap, ◌∙◌, inl, inr, arith, length-set}
use Rattle.std.proofs.Common.{length-append}
use Rattle.std.specs.Option.{option_map}
use Rattle.std.proofs.lemmas.Bool.{cases_eq}
use Rattle.std.proofs.lemmas.Bool.Decides.{nat_tests}
use Rattle.std.proofs.lemmas.Option.{none-some}
use Rattle.std.proofs.lemmas.List.{get_or_past, get_or-replicate, length-map, length-replicate, map-append}
use Rattle.std.proofs.lemmas.List.{ext_get_or}
use Rattle.std.proofs.lemmas.List.Sums.{sum_by-cons}
use Rattle.agenda.specs.declared.due.Due.{Due}
use Rattle.agenda.specs.Dues.{add_due}
use Rattle.agenda_wheel.specs.Kept.{is_free}
use Rattle.agenda_wheel.specs.Linked.{Linked}
use Rattle.agenda_wheel.specs.Nodes.{nil, no_node, node_of, next_of, prev_of, head_of, put_nodes, put_heads}
use Rattle.agenda_wheel.specs.Slots.{sorted, Distinct}
use Rattle.agenda_wheel.specs.Wheel.{pair_at, pairs_of, bucket, tick_color, list_for, actor_color, Sound}
use Rattle.agenda_wheel.specs.declared.links.Node.{Node}
use Rattle.agenda_wheel.specs.declared.links.Side.TheVariants as side
use Rattle.agenda_wheel.proofs.Freeing.{plain_pair, tick_not_actor, lt_true, actor_in, map_get}
use Rattle.agenda_wheel.proofs.Linking.{put_linked, relink}
use Rattle.agenda_wheel.proofs.Splicing.{put_is, put_other, put_plain}

-- a node more that is as no node
node_more : (ns : List Node) (y : ℕ) → node_of (ns ++ no_node ∷ []) y ≡ node_of ns y
node_more [] zero = refl
node_more [] (suc y) = refl
node_more (n ∷ ns) zero = refl
node_more (n ∷ ns) (suc y) = node_more ns y

sorted_more : (s : List (Option Due)) → sorted (s ++ None ∷ []) ≡ sorted s
sorted_more [] = refl
sorted_more (None ∷ s) = sorted_more s
sorted_more (Some d ∷ s) = ap (add_due d) (sorted_more s)

free_more : (s : List (Option Due)) → count_by is_free (s ++ None ∷ []) ≡ count_by is_free s + 1
free_more [] = refl
free_more (o ∷ s) =
    let h = free_more s in
    let a = sum_by-cons (λ (p : Option Due). cond (is_free p) 1 0) o (s ++ None ∷ []) in
    let b = sum_by-cons (λ (p : Option Due). cond (is_free p) 1 0) o s in
    omega (arith, h, a, b)

not_lt : (x n : ℕ) → n ≤ x → nat_lt x n ≡ false
not_lt x n h = grind (arith, nat_tests)

lt_more : (y n m : ℕ) → m ≡ n + 1 → y ≢ n → nat_lt y m ≡ nat_lt y n
lt_more y n m e ne = grind (arith, nat_tests)

module _ (ns : List Node) (ts hs : List ℕ) (s : Sound ns ts hs) (apart : Distinct (pairs_of ns)) (lists : 0 < length hs)
    (small : length ns < nil) where
  abbrev x : ℕ
  x = length ns

  abbrev n1 : List Node
  n1 = ns ++ no_node ∷ []

  abbrev n2 : List Node
  n2 = put_nodes side.Actor n1 hs x 0

  length1 : length n1 ≡ length ns + 1
  length1 = length-append ns (no_node ∷ [])

  pub grown_length : length n2 ≡ length ns + 1
  grown_length = let e = length1 in omega (arith, length-set {A = Node}, e)

  pub grown_pair : (y : ℕ) → pair_at n2 y ≡ pair_at ns y
  grown_pair y = put_plain (λ n. n.pair) plain_pair side.Actor n1 hs x 0 y ∙ ap (λ (n : Node). n.pair) (node_more ns y)

  pub grown_pairs : pairs_of n2 ≡ pairs_of ns ++ None ∷ []
  grown_pairs =
      ext_get_or None _ _
      (length-map n2 (λ (n : Node). n.pair) ∙ grown_length ∙ sym (length-append (pairs_of ns) (None ∷ [])
      ∙ ap (λ k. k + 1) (length-map ns (λ (n : Node). n.pair))))
      (λ i inside.
      map_get n2 i ∙ put_plain (λ n. n.pair) plain_pair side.Actor n1 hs x 0 i ∙ sym (map_get n1 i)
      ∙ ap (λ z. get_or z i None) (map-append (λ (n : Node). n.pair) ns (no_node ∷ [])))

  pub grown_sorted : sorted (pairs_of n2) ≡ sorted (pairs_of ns)
  grown_sorted = ap sorted grown_pairs ∙ sorted_more (pairs_of ns)

  pub grown_free : count_by is_free (pairs_of n2) ≡ count_by is_free (pairs_of ns) + 1
  grown_free = ap (count_by is_free) grown_pairs ∙ free_more (pairs_of ns)

  pub grown_apart : Distinct (pairs_of n2)
  grown_apart = λ i j d p q.
      apart i j d (map_get ns i ∙ sym (grown_pair i) ∙ sym (map_get n2 i) ∙ p) (map_get ns j ∙ sym (grown_pair j) ∙ sym (map_get n2 j) ∙ q)

  tick2 : Linked (next_of side.Tick n2) (prev_of side.Tick n2) (head_of ts) (tick_color n2) nil
  tick2 =
      relink (next_of side.Tick ns) (prev_of side.Tick ns) (head_of ts) (next_of side.Tick n2) (prev_of side.Tick n2) (head_of ts)
      (tick_color ns) (tick_color n2) nil s.by_tick
      (λ y. (put_other side.Tick side.Actor tick_not_actor n1 x y hs 0).0 ∙ ap (λ (n : Node). n.by_tick.next) (node_more ns y))
      (λ y. (put_other side.Tick side.Actor tick_not_actor n1 x y hs 0).1 ∙ ap (λ (n : Node). n.by_tick.prev) (node_more ns y))
      (λ y. refl)
      (λ y. ap (option_map bucket) (grown_pair y))

  actor1 : Linked (next_of side.Actor n1) (prev_of side.Actor n1) (head_of hs) (actor_color ns) nil
  actor1 =
      relink (next_of side.Actor ns) (prev_of side.Actor ns) (head_of hs) (next_of side.Actor n1) (prev_of side.Actor n1) (head_of hs)
      (actor_color ns) (actor_color ns) nil s.by_actor
      (λ y. ap (λ (n : Node). n.by_actor.next) (node_more ns y))
      (λ y. ap (λ (n : Node). n.by_actor.prev) (node_more ns y))
      (λ y. refl)
      (λ y. refl)

  head_in : head_of hs 0 ≢ nil → head_of hs 0 < length ns
  head_in ne = actor_in ns (head_of hs 0) 0 (actor1.heads 0 ne).0

  empty : pair_at n2 x ≡ None
  empty = grown_pair x ∙ ap (λ (n : Node). n.pair) (get_or_past ns x no_node (omega arith))

  actor2 : Linked (next_of side.Actor n2) (prev_of side.Actor n2) (head_of (put_heads hs x 0)) (actor_color n2) nil
  actor2 =
      put_linked (next_of side.Actor n1) (prev_of side.Actor n1) (head_of hs) (actor_color ns) nil actor1 (next_of side.Actor n2)
      (prev_of side.Actor n2) (head_of (put_heads hs x 0)) (actor_color n2) x 0
      (λ y ne. ap (λ b. cond b (Some (list_for (pair_at n2 y))) None) (lt_more y (length ns) (length n2) grown_length ne)
      ∙ ap (λ o. cond (nat_lt y (length ns)) (Some (list_for o)) None) (grown_pair y))
      (ap (λ b. cond b (Some (list_for (pair_at ns x))) None) (not_lt x (length ns) (omega arith)))
      (ap (λ b. cond b (Some (list_for (pair_at n2 x))) None) (lt_true x (length n2) (let e = grown_length in omega (arith, e)))
      ∙ ap (λ o. Some (list_for o)) empty)
      small
      (put_is side.Actor n1 hs x 0 lists (let e = length1 in omega (arith, e))
      (λ ne. let k = head_in ne in let e = length1 in omega (arith, k, e))
      (λ e. let k = head_in (λ z. omega (arith, e, z, small)) in omega (arith, k, e)))

  pub grown_sound : Sound n2 ts (put_heads hs x 0)
  grown_sound = record {
    by_tick = tick2;
    by_actor = actor2;
    wheel = s.wheel;
    known = λ y e h. let k = s.known y e (sym (grown_pair y) ∙ h) in let l = length-set hs 0 x in omega (arith, k, l);
    small = let e = grown_length in omega (arith, e, small);
  }

-- ---- more lists, all empty

nil_more : (k c : ℕ) → head_of (replicate k nil) c ≡ nil
nil_more k c =
    elim (cases_eq (suc c - k) 0) [
      | inl e ↦ get_or-replicate k c nil nil (omega (arith, e))
      | inr e ↦ get_or_past (replicate k nil) c nil (let l = length-replicate k nil in omega (arith, e, l))
    ]

head_more : (hs : List ℕ) (k c : ℕ) → head_of (hs ++ replicate k nil) c ≡ head_of hs c
head_more [] k c = nil_more k c
head_more (h ∷ hs) k zero = refl
head_more (h ∷ hs) k (suc c) = head_more hs k c

pub longer_sound : (ns : List Node) (ts hs : List ℕ) (k : ℕ) → Sound ns ts hs → Sound ns ts (hs ++ replicate k nil)
longer_sound ns ts hs k s = record {
  by_tick = s.by_tick;
  by_actor = relink (next_of side.Actor ns) (prev_of side.Actor ns) (head_of hs) (next_of side.Actor ns) (prev_of side.Actor ns)
      (head_of (hs ++ replicate k nil)) (actor_color ns) (actor_color ns) nil s.by_actor
      (λ y. refl) (λ y. refl) (λ y. head_more hs k y) (λ y. refl);
  wheel = s.wheel;
  known = λ y e h. let m = s.known y e h in let l = length-append hs (replicate k nil) in omega (arith, m, l);
  small = s.small;
}

-- ---- nothing yet

pub no_pairs : (x : ℕ) → pair_at [] x ≡ None
no_pairs x = refl

none_linked : (next prev head : ℕ → ℕ) (color : ℕ → Option ℕ) → ((x : ℕ) → color x ≡ None) → ((c : ℕ) → head c ≡ nil)
    → Linked next prev head color nil
none_linked next prev head color none empty = record {
  rank = λ x. 0;
  below = λ x c h. absurd (none-some c (sym (none x) ∙ h));
  first = λ x c h e. absurd (none-some c (sym (none x) ∙ h));
  before = λ x c h ne. absurd (none-some c (sym (none x) ∙ h));
  after = λ x c h ne. absurd (none-some c (sym (none x) ∙ h));
  heads = λ c ne. absurd (ne (empty c));
}

pub empty_sound : (k : ℕ) → Sound [] (replicate 1024 nil) (replicate k nil)
empty_sound k = record {
  by_tick = none_linked (next_of side.Tick []) (prev_of side.Tick []) (head_of (replicate 1024 nil)) (tick_color []) (λ x. refl) (λ c.
      nil_more 1024 c);
  by_actor = none_linked (next_of side.Actor []) (prev_of side.Actor []) (head_of (replicate k nil)) (actor_color []) (λ x.
      ap (λ b. cond b (Some (list_for (pair_at [] x))) None) (not_lt x 0 (omega arith))) (λ c. nil_more k c);
  wheel = length-replicate 1024 nil;
  known = λ x d h. absurd (none-some d h);
  small = omega arith;
}
