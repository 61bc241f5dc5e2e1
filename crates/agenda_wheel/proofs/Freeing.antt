-- A used node becomes free: both linkings stay sound, and one pair is gone.
use Rattle.std.proofs.Common.{◌≡◌, ◌≢◌, ℕ, zero, suc, [], ◌∷◌, ◌+◌, ◌<◌, ◌≤◌, Bool, true, false, cond, nat_eq, nat_lt, List, map}
use Rattle.std.proofs.Common.{length, get_or, set, Option, Some, None, refl, sym, ap, ◌∙◌, inl, inr, arith, length-set}
use Rattle.std.specs.Option.{option_map}
use Rattle.std.proofs.lemmas.Bool.{cases_eq}
use Rattle.std.proofs.lemmas.Bool.Decides.{nat_tests}
use Rattle.std.proofs.lemmas.Option.{none-some}
use Rattle.std.proofs.lemmas.List.{get_or-set_same, get_or-set_other, get_or_past, length-map, ext_get_or}
use Rattle.agenda.specs.declared.due.Due.{Due}
use Rattle.agenda_wheel.specs.Linked.{Linked}
use Rattle.agenda_wheel.specs.Nodes.{nil, no_node, node_of, link_of, next_of, prev_of, head_of}
use Rattle.agenda_wheel.specs.Nodes.{cut_nodes}
use Rattle.agenda_wheel.specs.Wheel.{pair_at, bucket, tick_color, list_for, actor_color, Sound, cut_both, unpaired, cut_actors, freed_nodes}
use Rattle.agenda_wheel.specs.Wheel.{freed_ticks, freed_actors}
use Rattle.agenda_wheel.specs.declared.links.Node.{Node}
use Rattle.agenda_wheel.specs.declared.links.Side.{Side}
use Rattle.agenda_wheel.specs.declared.links.Side.TheVariants as side
use Rattle.agenda_wheel.proofs.Linking.{cut_linked, put_linked, relink}
use Rattle.agenda_wheel.proofs.Splicing.{kept_by, cut_is, put_is, cut_other, put_other, Plain, cut_plain, put_plain}

pub plain_pair : Plain (λ n. n.pair)
plain_pair = record { by_tick = λ l n. refl; by_actor = λ l n. refl }

unpair : Node → Node
unpair n = record n { pair = None }

next_unpair : (s : Side) (n : Node) → (link_of s (record n { pair = None })).next ≡ (link_of s n).next
next_unpair side.Tick n = refl
next_unpair side.Actor n = refl

prev_unpair : (s : Side) (n : Node) → (link_of s (record n { pair = None })).prev ≡ (link_of s n).prev
prev_unpair side.Tick n = refl
prev_unpair side.Actor n = refl

pub tick_not_actor : side.Tick ≢ side.Actor
tick_not_actor e = cc

pub actor_not_tick : side.Actor ≢ side.Tick
actor_not_tick e = cc

pub lt_true : (x n : ℕ) → x < n → nat_lt x n ≡ true
lt_true x n h = grind (arith, nat_tests)

pub pair_in : (ns : List Node) (x : ℕ) (d : Due) → pair_at ns x ≡ Some d → x < length ns
pair_in ns x d h = told (nat_lt x (length ns)) refl
  where
    told : (b : Bool) → nat_lt x (length ns) ≡ b → x < length ns
    told true e = grind (arith, nat_tests)
    told false e =
        let past : length ns ≤ x = grind (arith, nat_tests) in
        absurd (none-some d (ap (λ (n : Node). n.pair) (sym (get_or_past ns x no_node past)) ∙ h))

pub tick_in : (ns : List Node) (x c : ℕ) → tick_color ns x ≡ Some c → x < length ns
tick_in ns x c h = told (pair_at ns x) refl h
  where
    told : (o : Option Due) → pair_at ns x ≡ o → option_map bucket o ≡ Some c → x < length ns
    told None e f = absurd (none-some c f)
    told (Some d) e f = pair_in ns x d e

pub actor_in : (ns : List Node) (x c : ℕ) → actor_color ns x ≡ Some c → x < length ns
actor_in ns x c h = told (nat_lt x (length ns)) refl h
  where
    told : (b : Bool) → nat_lt x (length ns) ≡ b → cond b (Some (list_for (pair_at ns x))) None ≡ Some c → x < length ns
    told true e f = grind (arith, nat_tests, e)
    told false e f = absurd (none-some c f)

pub pick_same : (y x : ℕ) (a b : Option ℕ) → y ≡ x → cond (nat_eq y x) a b ≡ a
pick_same y x a b e = let t : nat_eq y x ≡ true = grind (arith, nat_tests) in rw t refl

pub pick_other : (y x : ℕ) (a b : Option ℕ) → y ≢ x → cond (nat_eq y x) a b ≡ b
pick_other y x a b e = let t : nat_eq y x ≡ false = grind (arith, nat_tests) in rw t refl

pub length_either : (b : Bool) (hs : List ℕ) (c v : ℕ) → length (cond b (set hs c v) hs) ≡ length hs
length_either true hs c v = length-set hs c v
length_either false hs c v = refl

pub map_get : (ns : List Node) (y : ℕ) → get_or (map (λ (n : Node). n.pair) ns) y None ≡ pair_at ns y
map_get [] y = refl
map_get (n ∷ ns) zero = refl
map_get (n ∷ ns) (suc y) = map_get ns y

module _ (ns : List Node) (ts hs : List ℕ) (x : ℕ) (d : Due) (s : Sound ns ts hs) (used : pair_at ns x ≡ Some d) where
  abbrev n1 : List Node
  n1 = cut_nodes side.Tick ns x

  abbrev n2 : List Node
  n2 = cut_both ns x

  abbrev n3 : List Node
  n3 = unpaired ns x

  abbrev h1 : List ℕ
  h1 = cut_actors ns hs x d

  abbrev n4 : List Node
  n4 = freed_nodes ns hs x d

  x_in : x < length ns
  x_in = pair_in ns x d used

  size : length n4 ≡ length ns
  size = omega (arith, length-set {A = Node})

  pair2 : (y : ℕ) → pair_at n2 y ≡ pair_at ns y
  pair2 y = cut_plain (λ n. n.pair) plain_pair side.Actor n1 x y ∙ cut_plain (λ n. n.pair) plain_pair side.Tick ns x y

  pair4 : (y : ℕ) → pair_at n4 y ≡ pair_at n3 y
  pair4 y = put_plain (λ n. n.pair) plain_pair side.Actor n3 h1 x 0 y

  here : pair_at n4 x ≡ None
  here = pair4 x ∙ ap (λ (n : Node). n.pair) (get_or-set_same n2 x (record (node_of n2 x) { pair = None }) no_node
      (omega (arith, length-set {A = Node}, x_in)))

  there : (y : ℕ) → y ≢ x → pair_at n4 y ≡ pair_at ns y
  there y ne = pair4 y ∙ ap (λ (n : Node). n.pair) (get_or-set_other n2 x y (record (node_of n2 x) { pair = None }) no_node ne) ∙ pair2 y

  abbrev b : ℕ
  b = bucket d

  at_tick : tick_color ns x ≡ Some b
  at_tick = ap (option_map bucket) used

  tick1 : Linked (next_of side.Tick n1) (prev_of side.Tick n1) (head_of (freed_ticks ns ts x d)) (tick_color n4) nil
  tick1 =
      cut_linked (next_of side.Tick ns) (prev_of side.Tick ns) (head_of ts) (tick_color ns) nil s.by_tick (next_of side.Tick n1)
      (prev_of side.Tick n1) (head_of (freed_ticks ns ts x d)) (tick_color n4) x b
      (λ y ne. ap (option_map bucket) (there y ne)) at_tick (ap (option_map bucket) here)
      (cut_is side.Tick ns ts x b (omega (arith, s.wheel))
      (λ ne. tick_in ns (prev_of side.Tick ns x) b (s.by_tick.before x b at_tick ne).0)
      (λ ne. tick_in ns (next_of side.Tick ns x) b (s.by_tick.after x b at_tick ne).0))

  tick4 : Linked (next_of side.Tick n4) (prev_of side.Tick n4) (head_of (freed_ticks ns ts x d)) (tick_color n4) nil
  tick4 =
      relink (next_of side.Tick n1) (prev_of side.Tick n1) (head_of (freed_ticks ns ts x d)) (next_of side.Tick n4) (prev_of side.Tick n4)
      (head_of (freed_ticks ns ts x d)) (tick_color n4) (tick_color n4) nil tick1
      (λ y. (put_other side.Tick side.Actor tick_not_actor n3 x y h1 0).0
      ∙ kept_by (λ n. (link_of side.Tick n).next) (λ n. record n { pair = None }) (next_unpair side.Tick) n2 x y
      ∙ (cut_other side.Tick side.Actor tick_not_actor n1 x y).0)
      (λ y. (put_other side.Tick side.Actor tick_not_actor n3 x y h1 0).1
      ∙ kept_by (λ n. (link_of side.Tick n).prev) (λ n. record n { pair = None }) (prev_unpair side.Tick) n2 x y
      ∙ (cut_other side.Tick side.Actor tick_not_actor n1 x y).1)
      (λ y. refl)
      (λ y. refl)

  abbrev a : ℕ
  a = d.actor.0 + 1

  at_actor : actor_color ns x ≡ Some a
  at_actor =
      ap (λ k. cond k (Some (list_for (pair_at ns x))) None) (lt_true x (length ns) x_in) ∙ ap (λ o. Some (list_for o)) used

  actor1 : Linked (next_of side.Actor n1) (prev_of side.Actor n1) (head_of hs) (actor_color ns) nil
  actor1 =
      relink (next_of side.Actor ns) (prev_of side.Actor ns) (head_of hs) (next_of side.Actor n1) (prev_of side.Actor n1) (head_of hs)
      (actor_color ns) (actor_color ns) nil s.by_actor
      (λ y. (cut_other side.Actor side.Tick actor_not_tick ns x y).0) (λ y. (cut_other side.Actor side.Tick actor_not_tick ns x y).1) (λ y.
      refl) (λ y. refl)

  abbrev between : ℕ → Option ℕ
  between y = cond (nat_eq y x) None (actor_color ns y)

  between_in : (y c : ℕ) → between y ≡ Some c → y < length ns
  between_in y c h =
      elim (cases_eq y x) [
        | inl e ↦ omega (arith, e, x_in)
        | inr ne ↦ actor_in ns y c (sym (pick_other y x None (actor_color ns y) ne) ∙ h)
      ]

  actor2 : Linked (next_of side.Actor n2) (prev_of side.Actor n2) (head_of h1) between nil
  actor2 =
      cut_linked (next_of side.Actor n1) (prev_of side.Actor n1) (head_of hs) (actor_color ns) nil actor1 (next_of side.Actor n2)
      (prev_of side.Actor n2) (head_of h1) between x a
      (λ y ne. pick_other y x None (actor_color ns y) ne) at_actor (pick_same x x None (actor_color ns x) refl)
      (cut_is side.Actor n1 hs x a (s.known x d used)
      (λ ne. let k = actor_in ns (prev_of side.Actor n1 x) a (actor1.before x a at_actor ne).0 in omega (arith, length-set {A = Node}, k))
      (λ ne. let k = actor_in ns (next_of side.Actor n1 x) a (actor1.after x a at_actor ne).0 in omega (arith, length-set {A = Node}, k)))

  actor3 : Linked (next_of side.Actor n3) (prev_of side.Actor n3) (head_of h1) between nil
  actor3 =
      relink (next_of side.Actor n2) (prev_of side.Actor n2) (head_of h1) (next_of side.Actor n3) (prev_of side.Actor n3)
      (head_of h1) between between nil actor2
      (λ y. kept_by (λ n. (link_of side.Actor n).next) (λ n. record n { pair = None }) (next_unpair side.Actor) n2 x y)
      (λ y. kept_by (λ n. (link_of side.Actor n).prev) (λ n. record n { pair = None }) (prev_unpair side.Actor) n2 x y)
      (λ y. refl) (λ y. refl)

  length_h1 : length h1 ≡ length hs
  length_h1 = length_either (nat_eq (prev_of side.Actor n1 x) nil) hs a (next_of side.Actor n1 x)

  x_real : x ≢ nil
  x_real e = omega (arith, e, x_in, s.small)

  actor4 : Linked (next_of side.Actor n4) (prev_of side.Actor n4) (head_of (freed_actors ns hs x d)) (actor_color n4) nil
  actor4 =
      put_linked (next_of side.Actor n3) (prev_of side.Actor n3) (head_of h1) between nil actor3 (next_of side.Actor n4) (prev_of side.Actor n4)
      (head_of (freed_actors ns hs x d)) (actor_color n4) x 0
      (λ y ne. ap (λ k. cond (nat_lt y k) (Some (list_for (pair_at n4 y))) None) size
      ∙ ap (λ o. cond (nat_lt y (length ns)) (Some (list_for o)) None) (there y ne)
      ∙ sym (pick_other y x None (actor_color ns y) ne))
      (pick_same x x None (actor_color ns x) refl)
      (ap (λ k. cond k (Some (list_for (pair_at n4 x))) None) (lt_true x (length n4) (omega (arith, size, x_in)))
      ∙ ap (λ o. Some (list_for o)) here)
      (omega (arith, x_in, s.small))
      (put_is side.Actor n3 h1 x 0 (let k = s.known x d used in omega (arith, length_h1, k)) (omega (arith, length-set {A = Node}, x_in))
      (λ ne. let k = between_in (head_of h1 0) 0 (actor3.heads 0 ne).0 in omega (arith, length-set {A = Node}, k))
      (λ e. none-some 0 (sym (pick_same (head_of h1 0) x None (actor_color ns (head_of h1 0)) e) ∙ (actor3.heads 0 (λ z. x_real (sym e ∙ z))).0)))

  length_actors : length (freed_actors ns hs x d) ≡ length hs
  length_actors = length-set h1 0 x ∙ length_h1

  pub freed_sound : Sound n4 (freed_ticks ns ts x d) (freed_actors ns hs x d)
  freed_sound = record {
    by_tick = tick4;
    by_actor = actor4;
    wheel = length_either (nat_eq (prev_of side.Tick ns x) nil) ts b (next_of side.Tick ns x) ∙ s.wheel;
    known = λ y e h. elim (cases_eq y x) [
      | inl same ↦ absurd (none-some e (sym here ∙ ap (pair_at n4) (sym same) ∙ h))
      | inr ne ↦ let k = s.known y e (sym (there y ne) ∙ h) in omega (arith, k, length_actors)
    ];
    small = omega (arith, size, s.small);
  }

  pub freed_pairs : map (λ (n : Node). n.pair) n4 ≡ set (map (λ (n : Node). n.pair) ns) x None
  freed_pairs =
      ext_get_or None _ _
      (length-map n4 (λ (n : Node). n.pair) ∙ size ∙ sym (length-map ns (λ (n : Node). n.pair))
      ∙ sym (length-set (map (λ (n : Node). n.pair) ns) x None))
      (λ i inside. elim (cases_eq i x) [
        | inl same ↦
            map_get n4 i ∙ ap (pair_at n4) same ∙ here
            ∙ sym (ap (λ k. get_or (set (map (λ (n : Node). n.pair) ns) x None) k None) same
            ∙ get_or-set_same (map (λ (n : Node). n.pair) ns) x None None (omega (arith, length-map ns (λ (n : Node). n.pair), x_in)))
        | inr ne ↦ map_get n4 i ∙ there i ne ∙ sym (get_or-set_other (map (λ (n : Node). n.pair) ns) x i None None ne ∙ map_get ns i)
      ])

  pub freed_size : length (freed_actors ns hs x d) ≡ length hs
  freed_size = length_actors

  -- the node leaves its bucket, and the next of no other node but the one before it changes
  pub freed_links : (y : ℕ) → y ≢ nil → y ≢ prev_of side.Tick ns x → next_of side.Tick n4 y ≡ next_of side.Tick ns y
  freed_links y real ne =
      (put_other side.Tick side.Actor tick_not_actor n3 x y h1 0).0
      ∙ kept_by (λ n. (link_of side.Tick n).next) (λ n. record n { pair = None }) (next_unpair side.Tick) n2 x y
      ∙ (cut_other side.Tick side.Actor tick_not_actor n1 x y).0
      ∙ (cut_is side.Tick ns ts x b (omega (arith, s.wheel))
      (λ e. tick_in ns (prev_of side.Tick ns x) b (s.by_tick.before x b at_tick e).0)
      (λ e. tick_in ns (next_of side.Tick ns x) b (s.by_tick.after x b at_tick e).0)).nexts y real ne
