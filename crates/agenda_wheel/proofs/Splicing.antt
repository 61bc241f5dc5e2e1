-- What the writes in the vector do to the links, for either side.
use Rattle.std.proofs.Common.{◌≡◌, ◌≢◌, ◌⊎◌, ℕ, ◌-◌, ◌<◌, cond, nat_eq, List, length, get_or, set, refl, sym}
use Rattle.std.proofs.Common.{ap, ◌∙◌, inl, inr, arith, length-set}
use Rattle.std.proofs.lemmas.Bool.{cases_eq}
use Rattle.std.proofs.lemmas.Bool.Decides.{nat_tests}
use Rattle.std.proofs.lemmas.List.{get_or-set_same, get_or-set_other, set_past}
use Rattle.agenda_wheel.specs.Linked.{Cut, Put}
use Rattle.agenda_wheel.specs.Nodes.{nil, no_node, node_of, link_of, with_link, with_next, with_prev, next_of, prev_of, head_of, put_next}
use Rattle.agenda_wheel.specs.Nodes.{put_prev, cut_nodes, cut_heads, put_nodes, put_heads}
use Rattle.agenda_wheel.specs.declared.links.Link.{Link}
use Rattle.agenda_wheel.specs.declared.links.Node.{Node}
use Rattle.agenda_wheel.specs.declared.links.Side.{Side}
use Rattle.agenda_wheel.specs.declared.links.Side.TheVariants as side

-- what a change of one node keeps, all nodes keep
pub kept_by : {X : Type 0} (f : Node → X) (w : Node → Node) → ((n : Node) → f (w n) ≡ f n) → (ns : List Node) (a y : ℕ)
    → f (get_or (set ns a (w (get_or ns a no_node))) y no_node) ≡ f (get_or ns y no_node)
kept_by f w h ns a y =
    elim (cases_eq y a) [
      | inl s ↦ within (cases_eq (length ns - a) 0)
      | inr ns' ↦ ap f (get_or-set_other ns a y _ no_node ns')
    ]
  where
    within : (length ns - a ≡ 0) ⊎ (length ns - a ≢ 0) → f (get_or (set ns a (w (get_or ns a no_node))) y no_node) ≡ f (get_or ns y no_node)
    within (inl e) = ap (λ xs. f (get_or xs y no_node)) (set_past ns a _ (omega (arith, e)))
    within (inr e) = elim (cases_eq y a) [
      | inl s ↦ ap (λ z. f (get_or (set ns a (w (get_or ns a no_node))) z no_node)) s ∙ ap f (get_or-set_same ns a _ no_node (omega (arith, e)))
          ∙ h (get_or ns a no_node) ∙ ap (λ z. f (get_or ns z no_node)) (sym s)
      | inr other ↦ ap f (get_or-set_other ns a y _ no_node other)
    ]

next_with_prev : (s t : Side) (v : ℕ) (n : Node) → (link_of s (with_prev t v n)).next ≡ (link_of s n).next
next_with_prev side.Tick side.Tick v n = refl
next_with_prev side.Tick side.Actor v n = refl
next_with_prev side.Actor side.Tick v n = refl
next_with_prev side.Actor side.Actor v n = refl

prev_with_next : (s t : Side) (v : ℕ) (n : Node) → (link_of s (with_next t v n)).prev ≡ (link_of s n).prev
prev_with_next side.Tick side.Tick v n = refl
prev_with_next side.Tick side.Actor v n = refl
prev_with_next side.Actor side.Tick v n = refl
prev_with_next side.Actor side.Actor v n = refl

next_with_next : (s : Side) (v : ℕ) (n : Node) → (link_of s (with_next s v n)).next ≡ v
next_with_next side.Tick v n = refl
next_with_next side.Actor v n = refl

prev_with_prev : (s : Side) (v : ℕ) (n : Node) → (link_of s (with_prev s v n)).prev ≡ v
prev_with_prev side.Tick v n = refl
prev_with_prev side.Actor v n = refl

pub next_put_prev : (s t : Side) (ns : List Node) (a v y : ℕ) → next_of s (put_prev t ns a v) y ≡ next_of s ns y
next_put_prev s t ns a v y = kept_by (λ n. (link_of s n).next) (with_prev t v) (next_with_prev s t v) ns a y

pub prev_put_next : (s t : Side) (ns : List Node) (a v y : ℕ) → prev_of s (put_next t ns a v) y ≡ prev_of s ns y
prev_put_next s t ns a v y = kept_by (λ n. (link_of s n).prev) (with_next t v) (prev_with_next s t v) ns a y

pub next_put_at : (s : Side) (ns : List Node) (a v : ℕ) → a < length ns → next_of s (put_next s ns a v) a ≡ v
next_put_at s ns a v h = ap (λ n. (link_of s n).next) (get_or-set_same ns a (with_next s v (node_of ns a)) no_node h) ∙ next_with_next s v _

pub prev_put_at : (s : Side) (ns : List Node) (a v : ℕ) → a < length ns → prev_of s (put_prev s ns a v) a ≡ v
prev_put_at s ns a v h = ap (λ n. (link_of s n).prev) (get_or-set_same ns a (with_prev s v (node_of ns a)) no_node h) ∙ prev_with_prev s v _

pub next_put_other : (s t : Side) (ns : List Node) (a v y : ℕ) → y ≢ a → next_of s (put_next t ns a v) y ≡ next_of s ns y
next_put_other s t ns a v y ne = ap (λ n. (link_of s n).next) (get_or-set_other ns a y _ no_node ne)

pub prev_put_other : (s t : Side) (ns : List Node) (a v y : ℕ) → y ≢ a → prev_of s (put_prev t ns a v) y ≡ prev_of s ns y
prev_put_other s t ns a v y ne = ap (λ n. (link_of s n).prev) (get_or-set_other ns a y _ no_node ne)

pick_same : (y x : ℕ) (a b : List ℕ) → y ≡ x → cond (nat_eq y x) a b ≡ a
pick_same y x a b e = grind (arith, nat_tests)

pick_other : (y x : ℕ) (a b : List ℕ) → y ≢ x → cond (nat_eq y x) a b ≡ b
pick_other y x a b e = grind (arith, nat_tests)

module _ (s : Side) (ns : List Node) (hs : List ℕ) (x c : ℕ) (listed : c < length hs) where
  abbrev p : ℕ
  p = prev_of s ns x

  abbrev n : ℕ
  n = next_of s ns x

  abbrev mid : List Node
  mid = put_next s ns p n

  pub cut_is : (p ≢ nil → p < length ns) → (n ≢ nil → n < length ns)
      → Cut (next_of s ns) (prev_of s ns) (head_of hs) (next_of s (cut_nodes s ns x)) (prev_of s (cut_nodes s ns x))
      (head_of (cut_heads s ns hs x c)) x c nil
  cut_is pin nin = record {
    next_at = λ ne. next_put_prev s s mid n p p ∙ next_put_at s ns p n (pin ne);
    nexts = λ y ny ne. next_put_prev s s mid n p y ∙ next_put_other s s ns p n y ne;
    prev_at = λ ne. prev_put_at s mid n p (omega (arith, length-set {A = Node}, nin ne));
    prevs = λ y ny ne. prev_put_other s s mid n p y ne ∙ prev_put_next s s ns p n y;
    head_first = λ e. ap (λ h. get_or h c nil) (pick_same p nil (set hs c n) hs e) ∙ get_or-set_same hs c n nil listed;
    head_later = λ e. ap (λ h. get_or h c nil) (pick_other p nil (set hs c n) hs e);
    heads = λ d ne. elim (cases_eq p nil) [
      | inl e ↦ ap (λ h. get_or h d nil) (pick_same p nil (set hs c n) hs e) ∙ get_or-set_other hs c d n nil ne
      | inr e ↦ ap (λ h. get_or h d nil) (pick_other p nil (set hs c n) hs e)
    ];
  }

  abbrev h : ℕ
  h = head_of hs c

  abbrev one : List Node
  one = put_next s ns x h

  abbrev two : List Node
  two = put_prev s one x nil

  pub put_is : x < length ns → (h ≢ nil → h < length ns) → h ≢ x
      → Put (next_of s ns) (prev_of s ns) (head_of hs) (next_of s (put_nodes s ns hs x c)) (prev_of s (put_nodes s ns hs x c))
      (head_of (put_heads hs x c)) x c nil
  put_is xin hin differ = record {
    next_here = next_put_prev s s two h x x ∙ next_put_prev s s one x nil x ∙ next_put_at s ns x h xin;
    prev_here = prev_put_other s s two h x x (λ e. differ (sym e)) ∙ prev_put_at s one x nil (omega (arith, length-set {A = Node}, xin));
    head_here = get_or-set_same hs c x nil listed;
    nexts = λ y ny ne. next_put_prev s s two h x y ∙ next_put_prev s s one x nil y ∙ next_put_other s s ns x h y ne;
    back = λ ne. prev_put_at s two h x (omega (arith, length-set {A = Node}, hin ne));
    prevs = λ y ny nx nh. prev_put_other s s two h x y nh ∙ prev_put_other s s one x nil y nx ∙ prev_put_next s s ns x h y;
    heads = λ d ne. get_or-set_other hs c d x nil ne;
  }

-- the other side keeps its links, and each node its pair
other_next_with_next : (s t : Side) → s ≢ t → (v : ℕ) (n : Node) → (link_of s (with_next t v n)).next ≡ (link_of s n).next
other_next_with_next side.Tick side.Tick ne v n = absurd (ne refl)
other_next_with_next side.Tick side.Actor ne v n = refl
other_next_with_next side.Actor side.Tick ne v n = refl
other_next_with_next side.Actor side.Actor ne v n = absurd (ne refl)

other_prev_with_prev : (s t : Side) → s ≢ t → (v : ℕ) (n : Node) → (link_of s (with_prev t v n)).prev ≡ (link_of s n).prev
other_prev_with_prev side.Tick side.Tick ne v n = absurd (ne refl)
other_prev_with_prev side.Tick side.Actor ne v n = refl
other_prev_with_prev side.Actor side.Tick ne v n = refl
other_prev_with_prev side.Actor side.Actor ne v n = absurd (ne refl)

module _ (s t : Side) (ne : s ≢ t) (ns : List Node) (x y : ℕ) where
  abbrev cp : ℕ
  cp = prev_of t ns x

  abbrev cn : ℕ
  cn = next_of t ns x

  pub cut_other : (next_of s (cut_nodes t ns x) y ≡ next_of s ns y) × (prev_of s (cut_nodes t ns x) y ≡ prev_of s ns y)
  cut_other = (
    next_put_prev s t (put_next t ns cp cn) cn cp y ∙ kept_by (λ m. (link_of s m).next) (with_next t cn) (other_next_with_next s t ne cn) ns cp y,
    kept_by (λ m. (link_of s m).prev) (with_prev t cp) (other_prev_with_prev s t ne cp) (put_next t ns cp cn) cn y ∙ prev_put_next s t ns cp cn y,
  )

  module _ (hs : List ℕ) (c : ℕ) where
    abbrev ph : ℕ
    ph = head_of hs c

    abbrev p1 : List Node
    p1 = put_next t ns x ph

    abbrev p2 : List Node
    p2 = put_prev t p1 x nil

    pub put_other : (next_of s (put_nodes t ns hs x c) y ≡ next_of s ns y) × (prev_of s (put_nodes t ns hs x c) y ≡ prev_of s ns y)
    put_other = (
      next_put_prev s t p2 ph x y ∙ next_put_prev s t p1 x nil y ∙ kept_by (λ m.
          (link_of s m).next) (with_next t ph) (other_next_with_next s t ne ph) ns x y,
      kept_by (λ m. (link_of s m).prev) (with_prev t x) (other_prev_with_prev s t ne x) p2 ph y
          ∙ kept_by (λ m. (link_of s m).prev) (with_prev t nil) (other_prev_with_prev s t ne nil) p1 x y
          ∙ prev_put_next s t ns x ph y,
    )

-- what the links don't touch
pub record Plain {X : Type 0} (f : Node → X) : Type 0 where
  pub by_tick : (l : Link) (n : Node) → f (with_link side.Tick l n) ≡ f n
  pub by_actor : (l : Link) (n : Node) → f (with_link side.Actor l n) ≡ f n

plain_link : {X : Type 0} (f : Node → X) → Plain f → (t : Side) (l : Link) (n : Node) → f (with_link t l n) ≡ f n
plain_link f p side.Tick l n = p.by_tick l n
plain_link f p side.Actor l n = p.by_actor l n

pub plain_next : {X : Type 0} (f : Node → X) → Plain f → (t : Side) (ns : List Node) (a v y : ℕ)
    → f (node_of (put_next t ns a v) y) ≡ f (node_of ns y)
plain_next f p t ns a v y = kept_by f (with_next t v) (λ n. plain_link f p t (record (link_of t n) { next = v }) n) ns a y

pub plain_prev : {X : Type 0} (f : Node → X) → Plain f → (t : Side) (ns : List Node) (a v y : ℕ)
    → f (node_of (put_prev t ns a v) y) ≡ f (node_of ns y)
plain_prev f p t ns a v y = kept_by f (with_prev t v) (λ n. plain_link f p t (record (link_of t n) { prev = v }) n) ns a y

pub cut_plain : {X : Type 0} (f : Node → X) → Plain f → (t : Side) (ns : List Node) (x y : ℕ)
    → f (node_of (cut_nodes t ns x) y) ≡ f (node_of ns y)
cut_plain f p t ns x y = plain_prev f p t (put_next t ns (prev_of t ns x) (next_of t ns x)) (next_of t ns x) (prev_of t ns x) y
    ∙ plain_next f p t ns (prev_of t ns x) (next_of t ns x) y

pub put_plain : {X : Type 0} (f : Node → X) → Plain f → (t : Side) (ns : List Node) (hs : List ℕ) (x c y : ℕ)
    → f (node_of (put_nodes t ns hs x c) y) ≡ f (node_of ns y)
put_plain f p t ns hs x c y =
    plain_prev f p t (put_prev t (put_next t ns x (head_of hs c)) x nil) (head_of hs c) x y
    ∙ plain_prev f p t (put_next t ns x (head_of hs c)) x nil y
    ∙ plain_next f p t ns x (head_of hs c) y
