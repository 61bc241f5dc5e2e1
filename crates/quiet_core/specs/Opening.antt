-- The words and the accounts at the opening.
use Rattle.std.specs.Prelude.{◌≡◌, ℕ, ◌<◌, ◌≤◌, cond, eqb, List, length, get_or, min, replicate}
use Rattle.manager_tree.specs.Shape as tree
use Rattle.quiet_core.specs.Rows.{below}
use Rattle.quiet_core.specs.Account.{Shape, managers, scheduled, root, parent, blank}
use Rattle.quiet_core.specs.Step.{word_count}
use Rattle.quiet_core.specs.Balance.{Sized}
use Rattle.quiet_core.specs.Event.{Standing}

-- the words at the opening, while nobody has done anything
pub record Opening (t : Shape) (ws : List ℕ) : Type 0 where
  pub sized : Sized t
  pub wide : length ws ≡ word_count t
  pub leaves : (m : ℕ) → m < managers t → get_or ws m 0 ≡ scheduled t m
  pub inner : (j : ℕ) → managers t ≤ j → j ≤ root t → get_or ws j 0 ≡ below (λ c. cond (eqb (parent t c) j) (min (get_or ws c 0) 1) 0) (root t)
  pub others : (k : ℕ) → root t < k → get_or ws k 0 ≡ 0
  pub somebody : 1 ≤ get_or ws (root t) 0

-- the first n leaves have their words, and all else is 0
pub record Leafy (t : Shape) (n : ℕ) (ws : List ℕ) : Type 0 where
  pub wide : length ws ≡ word_count t
  pub leaves : (m : ℕ) → m < n → get_or ws m 0 ≡ scheduled t m
  pub others : (k : ℕ) → n ≤ k → get_or ws k 0 ≡ 0

-- the first n nodes are counted at their parents
pub record Counted (t : Shape) (n : ℕ) (ws : List ℕ) : Type 0 where
  pub wide : length ws ≡ word_count t
  pub leaves : (m : ℕ) → m < managers t → get_or ws m 0 ≡ scheduled t m
  pub inner : (j : ℕ) → managers t ≤ j → j ≤ root t → get_or ws j 0 ≡ below (λ c. cond (eqb (parent t c) j) (min (get_or ws c 0) 1) 0) n
  pub others : (k : ℕ) → root t < k → get_or ws k 0 ≡ 0

abbrev pub Somebody : Shape → Type 0
Somebody t = (m : ℕ) × (m < managers t) × (1 ≤ scheduled t m)

-- the shape of a round over a tree
abbrev pub shape_over : tree.Shape → List ℕ → ℕ → Shape
shape_over over sched hands = record { sched = sched; parents = over.parents; hands = hands }

-- the words of the opening, and a hand of weight 1 that has done nothing for each unit of weight
pub record IsOpened (t : Shape) (c : Standing) : Type 0 where
  pub shape : c.shape ≡ t
  pub words : Opening t c.state.words
  pub accounts : c.state.accounts ≡ replicate t.hands (record (blank t) { weight = 1 })
