use Rattle.std.proofs.Common.{◌≡◌, ℕ, ◌+◌, List, [], ◌∷◌, ◌++◌, append_assoc, append-nil, ap, refl, ◌∙◌, arith}
use Rattle.std.proofs.lemmas.Grind.{flat_map-append}
use Rattle.std.proofs.lemmas.List.FromFn.{map-range_with_len_more}
use Rattle.std.proofs.lemmas.List.{map-id}
use Rattle.std.specs.List.{flat_map, range_with_len}
use Rattle.sim_top.specs.Commands.Plan.{node_line}
use Rattle.sim_top.proofs.commands.plan.add_tree.Goals as goal

-- one number more
one_more : (f : ℕ → List ℕ) (n : ℕ) → flat_map f (range_with_len 0 (n + 1)) ≡ flat_map f (range_with_len 0 n) ++ f n
one_more f n =
    let range : range_with_len 0 (n + 1) ≡ range_with_len 0 n ++ n ∷ [] = simp map-id at (map-range_with_len_more (λ k. k) 0 n n (omega arith)) in
    let last : flat_map f (n ∷ []) ≡ f n = append-nil (f n) in
    rw (range, flat_map-append f (range_with_len 0 n) (n ∷ []), last) refl

written : (f : ℕ → List ℕ) (n : ℕ) (old before after : List ℕ) → before ≡ old ++ flat_map f (range_with_len 0 n) → after ≡ before ++ f n
    → after ≡ old ++ flat_map f (range_with_len 0 (n + 1))
written f n old before after was now = now ∙ ap (λ text. text ++ f n) was ∙ append_assoc old (flat_map f (range_with_len 0 n)) (f n) ∙ rw (one_more f n) refl

pub loop-node-preserved : goal.loop-node-preserved
loop-node-preserved c =
    written (node_line c.args.tree.now) c.loop-node.node c.args.text.now.items c.loop-node.text.items c.add_node.new.text.items c.loop-node.invariant c.in_ok-add_node.ensures
