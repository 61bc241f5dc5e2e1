-- A list that gets one item after another.
use Rattle.std.proofs.Common.{◌≡◌, ℕ, ◌+◌, List, [], ◌∷◌, ◌++◌, map, arith, append_assoc}
use Rattle.std.specs.List.{range_with_len}
use Rattle.std.proofs.lemmas.List.{map-append, map-id}
use Rattle.std.proofs.lemmas.List.FromFn.{map-range_with_len_more}
use Rattle.sim_base.specs.declared.ids.NodeId.{NodeId}
use Rattle.manager_tree.specs.Index.{numbers_of}

pub pushed_more : (f : ℕ → ℕ) (old items new : List ℕ) (n : ℕ) → items ≡ old ++ map f (range_with_len 0 n) → new ≡ items ++ f n ∷ []
    → new ≡ old ++ map f (range_with_len 0 (n + 1))
pushed_more f old items new n before step =
    let more : map f (range_with_len 0 (n + 1)) ≡ map f (range_with_len 0 n) ++ f n ∷ [] = map-range_with_len_more f 0 n n (omega arith) in
    rw (step, before, more, append_assoc)

pub numbers_more : (items new : List NodeId) (n : ℕ) → numbers_of items ≡ range_with_len 0 n → new ≡ items ++ record { 0 = n } ∷ []
    → numbers_of new ≡ range_with_len 0 (n + 1)
numbers_more items new n before step =
    let more : range_with_len 0 (n + 1) ≡ range_with_len 0 n ++ n ∷ [] =
    simp map-id at (map-range_with_len_more (λ k. k) 0 n n (omega arith)) in
    rw (step, map-append, before, more)
