-- A walk along the list of an actor.
use Rattle.std.proofs.Common.{◌≡◌, ◌≢◌, ℕ, ◌+◌, ◌<◌, ◌≤◌, List, length, Some, sym, ap, ◌∙◌, subst, inl, inr}
use Rattle.std.proofs.Common.{arith}
use Rattle.std.proofs.lemmas.Bool.{cases_eq}
use Rattle.std.proofs.lemmas.List.{get_or_past}
use Rattle.agenda.specs.declared.due.Due.{Due}
use Rattle.agenda_wheel.specs.Nodes.{nil, no_node, next_of, prev_of, head_of}
use Rattle.agenda_wheel.specs.Wheel.{pair_at, actor_color, ByActor}
use Rattle.agenda_wheel.specs.declared.links.Node.{Node}
use Rattle.agenda_wheel.specs.declared.links.Side.TheVariants as side
use Rattle.agenda_wheel.proofs.Dropping.{color_is}
use Rattle.agenda_wheel.proofs.Freeing.{actor_in}
use Rattle.agenda_wheel.proofs.Walking.{visited, of_list, ended, bounded}

module _ (ns : List Node) (hs : List ℕ) (a : ℕ) (l : ByActor ns hs) (small : length ns ≤ nil) where
  stays : next_of side.Actor ns nil ≡ nil
  stays = ap (λ (n : Node). n.by_actor.next) (get_or_past ns nil no_node small)

  abbrev v : ℕ → ℕ
  v n = visited (next_of side.Actor ns) (head_of hs (a + 1)) n

  few : (n : ℕ) → ((i : ℕ) → i < n → v i < length ns) → n ≤ length ns
  few n real =
      bounded (next_of side.Actor ns) (prev_of side.Actor ns) (head_of hs) (actor_color ns) nil l (a + 1) stays (length ns) n
      (λ x h. actor_in ns x (a + 1) h) (λ i p e. let r = real i p in omega (arith, r, e, small))

  pub steps_below : (n here : ℕ) → here ≡ v n → here < length ns → ((i : ℕ) → i < n → v i < length ns) → n < length ns
  steps_below n here place inside real =
      let k = few (n + 1) (λ i p. elim (cases_eq i n) [
        | inl e ↦ subst (λ w. w < length ns) (place ∙ ap v (sym e)) inside
        | inr ne ↦ real i (omega (arith, p, ne))
      ]) in
      omega (arith, k)

  pub not_found : (n here : ℕ) (d : Due) → d.actor.0 ≡ a → here ≡ v n → length ns ≤ here → ((i : ℕ) → i < n → pair_at ns (v i) ≢ Some d)
      → (x : ℕ) → pair_at ns x ≢ Some d
  not_found n here d mine place past others x h =
      let c : actor_color ns x ≡ Some (a + 1) = color_is ns x d h ∙ ap (λ k. Some (k + 1)) mine in
      elim (cases_eq (v n) nil) [
        | inl e ↦
            let m = ended (next_of side.Actor ns) (prev_of side.Actor ns) (head_of hs) (actor_color ns) nil l (a + 1) stays n x e c in
            others m.0 m.1 (ap (pair_at ns) m.2 ∙ h)
        | inr ne ↦
            let k = actor_in ns (v n) (a + 1) (of_list (next_of side.Actor ns) (prev_of side.Actor ns) (head_of hs) (actor_color ns) nil l
            (a + 1) stays n ne) in
            absurd (omega (arith, k, place, past))
      ]
