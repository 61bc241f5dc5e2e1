-- A free node gets a pair: both linkings stay sound, and one pair is there.
use Rattle.std.proofs.Common.{◌≡◌, ◌≢◌, ℕ, ◌+◌, ◌<◌, cond, nat_eq, nat_lt, List, map}
use Rattle.std.proofs.Common.{length, get_or, set, Option, Some, None, refl, sym, ap, ◌∙◌, inl, inr, arith, length-set}
use Rattle.std.specs.Option.{option_map}
use Rattle.std.proofs.lemmas.Bool.{cases_eq}
use Rattle.std.proofs.lemmas.Option.{none-some, same_Some}
use Rattle.std.proofs.lemmas.List.{get_or-set_same, get_or-set_other, length-map, ext_get_or}
use Rattle.agenda.specs.declared.due.Due.{Due}
use Rattle.agenda_wheel.specs.Linked.{Linked}
use Rattle.agenda_wheel.specs.Nodes.{nil, no_node, node_of, link_of, next_of, prev_of, head_of}
use Rattle.agenda_wheel.specs.Nodes.{cut_nodes, put_heads}
use Rattle.agenda_wheel.specs.Wheel.{pair_at, bucket, tick_color, list_for, actor_color, Sound, paired, in_bucket, rest_actors, used_nodes}
use Rattle.agenda_wheel.specs.Wheel.{used_actors}
use Rattle.agenda_wheel.specs.declared.links.Node.{Node}
use Rattle.agenda_wheel.specs.declared.links.Side.{Side}
use Rattle.agenda_wheel.specs.declared.links.Side.TheVariants as side
use Rattle.agenda_wheel.proofs.Linking.{cut_linked, put_linked, relink}
use Rattle.agenda_wheel.proofs.Splicing.{kept_by, cut_is, put_is, cut_other, put_other, cut_plain, put_plain}
use Rattle.agenda_wheel.proofs.Freeing.{plain_pair, tick_not_actor, actor_not_tick, lt_true, pick_same, pick_other, length_either}
use Rattle.agenda_wheel.proofs.Freeing.{tick_in, actor_in, map_get}

next_paired : (s : Side) (d : Due) (n : Node) → (link_of s (record n { pair = Some d })).next ≡ (link_of s n).next
next_paired side.Tick d n = refl
next_paired side.Actor d n = refl

prev_paired : (s : Side) (d : Due) (n : Node) → (link_of s (record n { pair = Some d })).prev ≡ (link_of s n).prev
prev_paired side.Tick d n = refl
prev_paired side.Actor d n = refl

module _ (ns : List Node) (ts hs : List ℕ) (x : ℕ) (d : Due) (s : Sound ns ts hs) (empty : pair_at ns x ≡ None) (x_in : x < length ns)
    (known : d.actor.0 + 1 < length hs) where
  abbrev n1 : List Node
  n1 = cut_nodes side.Actor ns x

  abbrev n2 : List Node
  n2 = paired ns x d

  abbrev b : ℕ
  b = bucket d

  abbrev a : ℕ
  a = d.actor.0 + 1

  abbrev n3 : List Node
  n3 = in_bucket ns ts x d

  abbrev h1 : List ℕ
  h1 = rest_actors ns hs x

  abbrev n4 : List Node
  n4 = used_nodes ns ts hs x d

  size : length n4 ≡ length ns
  size = omega (arith, length-set {A = Node})

  pair4 : (y : ℕ) → pair_at n4 y ≡ pair_at n2 y
  pair4 y = put_plain (λ n. n.pair) plain_pair side.Actor n3 h1 x a y ∙ put_plain (λ n. n.pair) plain_pair side.Tick n2 ts x b y

  here : pair_at n4 x ≡ Some d
  here = pair4 x ∙ ap (λ (n : Node). n.pair) (get_or-set_same n1 x (record (node_of n1 x) { pair = Some d }) no_node
      (omega (arith, length-set {A = Node}, x_in)))

  there : (y : ℕ) → y ≢ x → pair_at n4 y ≡ pair_at ns y
  there y ne =
      pair4 y ∙ ap (λ (n : Node). n.pair) (get_or-set_other n1 x y (record (node_of n1 x) { pair = Some d }) no_node ne)
      ∙ cut_plain (λ n. n.pair) plain_pair side.Actor ns x y

  x_real : x ≢ nil
  x_real e = omega (arith, e, x_in, s.small)

  no_bucket : tick_color ns x ≡ None
  no_bucket = ap (option_map bucket) empty

  tick2 : Linked (next_of side.Tick n2) (prev_of side.Tick n2) (head_of ts) (tick_color ns) nil
  tick2 =
      relink (next_of side.Tick ns) (prev_of side.Tick ns) (head_of ts) (next_of side.Tick n2) (prev_of side.Tick n2) (head_of ts)
      (tick_color ns) (tick_color ns) nil s.by_tick
      (λ y. kept_by (λ n. (link_of side.Tick n).next) (λ n. record n { pair = Some d }) (next_paired side.Tick d) n1 x y
      ∙ (cut_other side.Tick side.Actor tick_not_actor ns x y).0)
      (λ y. kept_by (λ n. (link_of side.Tick n).prev) (λ n. record n { pair = Some d }) (prev_paired side.Tick d) n1 x y
      ∙ (cut_other side.Tick side.Actor tick_not_actor ns x y).1)
      (λ y. refl) (λ y. refl)

  tick3 : Linked (next_of side.Tick n3) (prev_of side.Tick n3) (head_of (put_heads ts x b)) (tick_color n4) nil
  tick3 =
      put_linked (next_of side.Tick n2) (prev_of side.Tick n2) (head_of ts) (tick_color ns) nil tick2 (next_of side.Tick n3)
      (prev_of side.Tick n3) (head_of (put_heads ts x b)) (tick_color n4) x b
      (λ y ne. ap (option_map bucket) (there y ne)) no_bucket (ap (option_map bucket) here) (omega (arith, x_in, s.small))
      (put_is side.Tick n2 ts x b (omega (arith, s.wheel)) (omega (arith, length-set {A = Node}, x_in))
      (λ ne. let k = tick_in ns (head_of ts b) b (s.by_tick.heads b ne).0 in omega (arith, length-set {A = Node}, k))
      (λ e. none-some b (sym no_bucket ∙ ap (tick_color ns) (sym e) ∙ (s.by_tick.heads b (λ z. x_real (sym e ∙ z))).0)))

  tick4 : Linked (next_of side.Tick n4) (prev_of side.Tick n4) (head_of (put_heads ts x b)) (tick_color n4) nil
  tick4 =
      relink (next_of side.Tick n3) (prev_of side.Tick n3) (head_of (put_heads ts x b)) (next_of side.Tick n4) (prev_of side.Tick n4)
      (head_of (put_heads ts x b)) (tick_color n4) (tick_color n4) nil tick3
      (λ y. (put_other side.Tick side.Actor tick_not_actor n3 x y h1 a).0) (λ y.
      (put_other side.Tick side.Actor tick_not_actor n3 x y h1 a).1) (λ y. refl) (λ y. refl)

  at_free : actor_color ns x ≡ Some 0
  at_free =
      ap (λ k. cond k (Some (list_for (pair_at ns x))) None) (lt_true x (length ns) x_in) ∙ ap (λ o. Some (list_for o)) empty

  abbrev between : ℕ → Option ℕ
  between y = cond (nat_eq y x) None (actor_color ns y)

  between_in : (y c : ℕ) → between y ≡ Some c → y < length ns
  between_in y c h =
      elim (cases_eq y x) [
        | inl e ↦ omega (arith, e, x_in)
        | inr ne ↦ actor_in ns y c (sym (pick_other y x None (actor_color ns y) ne) ∙ h)
      ]

  actor1 : Linked (next_of side.Actor n1) (prev_of side.Actor n1) (head_of h1) between nil
  actor1 =
      cut_linked (next_of side.Actor ns) (prev_of side.Actor ns) (head_of hs) (actor_color ns) nil s.by_actor (next_of side.Actor n1)
      (prev_of side.Actor n1) (head_of h1) between x 0
      (λ y ne. pick_other y x None (actor_color ns y) ne) at_free (pick_same x x None (actor_color ns x) refl)
      (cut_is side.Actor ns hs x 0 (omega (arith, known))
      (λ ne. actor_in ns (prev_of side.Actor ns x) 0 (s.by_actor.before x 0 at_free ne).0)
      (λ ne. actor_in ns (next_of side.Actor ns x) 0 (s.by_actor.after x 0 at_free ne).0))

  actor3 : Linked (next_of side.Actor n3) (prev_of side.Actor n3) (head_of h1) between nil
  actor3 =
      relink (next_of side.Actor n1) (prev_of side.Actor n1) (head_of h1) (next_of side.Actor n3) (prev_of side.Actor n3)
      (head_of h1) between between nil actor1
      (λ y. (put_other side.Actor side.Tick actor_not_tick n2 x y ts b).0
      ∙ kept_by (λ n. (link_of side.Actor n).next) (λ n. record n { pair = Some d }) (next_paired side.Actor d) n1 x y)
      (λ y. (put_other side.Actor side.Tick actor_not_tick n2 x y ts b).1
      ∙ kept_by (λ n. (link_of side.Actor n).prev) (λ n. record n { pair = Some d }) (prev_paired side.Actor d) n1 x y)
      (λ y. refl) (λ y. refl)

  length_h1 : length h1 ≡ length hs
  length_h1 = length_either (nat_eq (prev_of side.Actor ns x) nil) hs 0 (next_of side.Actor ns x)

  actor4 : Linked (next_of side.Actor n4) (prev_of side.Actor n4) (head_of (used_actors ns hs x d)) (actor_color n4) nil
  actor4 =
      put_linked (next_of side.Actor n3) (prev_of side.Actor n3) (head_of h1) between nil actor3 (next_of side.Actor n4) (prev_of side.Actor n4)
      (head_of (used_actors ns hs x d)) (actor_color n4) x a
      (λ y ne. ap (λ k. cond (nat_lt y k) (Some (list_for (pair_at n4 y))) None) size
      ∙ ap (λ o. cond (nat_lt y (length ns)) (Some (list_for o)) None) (there y ne)
      ∙ sym (pick_other y x None (actor_color ns y) ne))
      (pick_same x x None (actor_color ns x) refl)
      (ap (λ k. cond k (Some (list_for (pair_at n4 x))) None) (lt_true x (length n4) (omega (arith, size, x_in)))
      ∙ ap (λ o. Some (list_for o)) here)
      (omega (arith, x_in, s.small))
      (put_is side.Actor n3 h1 x a (omega (arith, length_h1, known)) (omega (arith, length-set {A = Node}, x_in))
      (λ ne. let k = between_in (head_of h1 a) a (actor3.heads a ne).0 in omega (arith, length-set {A = Node}, k))
      (λ e. none-some a (sym (pick_same (head_of h1 a) x None (actor_color ns (head_of h1 a)) e) ∙ (actor3.heads a (λ z. x_real (sym e ∙ z))).0)))

  pub used_size : length (used_actors ns hs x d) ≡ length hs
  used_size = length-set h1 a x ∙ length_h1

  pub used_sound : Sound n4 (put_heads ts x b) (used_actors ns hs x d)
  used_sound = record {
    by_tick = tick4;
    by_actor = actor4;
    wheel = length-set ts b x ∙ s.wheel;
    known = λ y e h. elim (cases_eq y x) [
      | inl same ↦
          let f = same_Some d e (sym here ∙ ap (pair_at n4) (sym same) ∙ h) in
          let g : d.actor.0 ≡ e.actor.0 = ap (λ (z : Due). z.actor.0) f in
          omega (arith, g, known, used_size)
      | inr ne ↦ let k = s.known y e (sym (there y ne) ∙ h) in omega (arith, k, used_size)
    ];
    small = omega (arith, size, s.small);
  }

  pub used_pairs : map (λ (n : Node). n.pair) n4 ≡ set (map (λ (n : Node). n.pair) ns) x (Some d)
  used_pairs =
      ext_get_or None _ _
      (length-map n4 (λ (n : Node). n.pair) ∙ size ∙ sym (length-map ns (λ (n : Node). n.pair))
      ∙ sym (length-set (map (λ (n : Node). n.pair) ns) x (Some d)))
      (λ i inside. elim (cases_eq i x) [
        | inl same ↦
            map_get n4 i ∙ ap (pair_at n4) same ∙ here
            ∙ sym (ap (λ k. get_or (set (map (λ (n : Node). n.pair) ns) x (Some d)) k None) same
            ∙ get_or-set_same (map (λ (n : Node). n.pair) ns) x (Some d) None (omega (arith, length-map ns (λ (n : Node). n.pair), x_in)))
        | inr ne ↦ map_get n4 i ∙ there i ne ∙ sym (get_or-set_other (map (λ (n : Node). n.pair) ns) x i (Some d) None ne ∙ map_get ns i)
      ])
