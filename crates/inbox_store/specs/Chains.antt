-- How the lists lie in the vectors. No public clause cites this module.
use Rattle.std.specs.Prelude.{◌≡◌, ◌≢◌, ◌⊎◌, ℕ, zero, suc, ◌+◌, ◌-◌, ◌<◌, pos, List, [], ◌∷◌, map, length, drop, reverse, slice_index_or, slice_set}
use Rattle.std.specs.List.{sum_by}
use Rattle.inbox_store.specs.Letters.{Letters}
use Rattle.actor_trait.specs.declared.letter.Letter.{Letter}
use Rattle.inbox_store.specs.declared.chains.Node.{Node}
use Rattle.inbox_store.specs.declared.chains.Chain.{Chain}

-- what a read past the end gives
abbrev pub no_node : Node
no_node = record { letter = record { to = record { 0 = 0 }; from = record { 0 = 0 }; serial = 0; payload = record { code = 0; a = pos 0; b = pos 0 } }; next = 0 }

abbrev pub no_chain : Chain
no_chain = record { head = 0; count = 0 }

abbrev pub node_of : List Node → ℕ → Node
node_of ns x = slice_index_or ns x no_node

abbrev pub chain_of : List Chain → ℕ → Chain
chain_of es c = slice_index_or es c no_chain

-- so many nodes, each where the one before leads
abbrev pub walk : List Node → ℕ → ℕ → List ℕ
walk ns zero x = []
walk ns (suc n) x = x ∷ walk ns n (node_of ns x).next

-- the nodes of a list
abbrev pub places : List Node → List Chain → ℕ → List ℕ
places ns es c = walk ns (chain_of es c).count (chain_of es c).head

-- their letters, the newest first
abbrev pub letters_at : List Node → List ℕ → List Letter
letters_at ns xs = map (λ x. (node_of ns x).letter) xs

abbrev pub newest : List Node → List Chain → ℕ → List Letter
newest ns es c = letters_at ns (places ns es c)

-- what a contract sees
abbrev pub store : List Node → List Chain → Letters
store ns es = record {
  lists = map (λ e. reverse (letters_at ns (walk ns e.count e.head))) (drop 1 es);
  spare = (chain_of es 0).count;
}

abbrev pub IsIn : ℕ → List ℕ → Type 0
IsIn x [] = ⊥
IsIn x (y ∷ ys) = (y ≡ x) ⊎ IsIn x ys

-- nothing is there twice
abbrev pub IsApart : List ℕ → Type 0
IsApart [] = Unit {0}
IsApart (x ∷ xs) = (¬ IsIn x xs) × IsApart xs

-- each node is in one list, once, and the lists together are the whole vector
pub record IsSound (ns : List Node) (es : List Chain) : Type 0 where
  pub owner : ℕ → ℕ
  pub owned : (c x : ℕ) → IsIn x (places ns es c) → (owner x ≡ c) × (x < length ns)
  pub apart : (c : ℕ) → IsApart (places ns es c)
  pub whole : sum_by (λ e. e.count) es ≡ length ns

-- after the first node of a list has become the first of another, with this letter
abbrev pub shifted_nodes : List Node → List Chain → ℕ → ℕ → Letter → List Node
shifted_nodes ns es a b l = slice_set ns (chain_of es a).head (record { letter = l; next = (chain_of es b).head })

abbrev pub shifted_chains : List Node → List Chain → ℕ → ℕ → List Chain
shifted_chains ns es a b =
    slice_set (slice_set es a (record { head = (node_of ns (chain_of es a).head).next; count = (chain_of es a).count - 1 }))
    b (record { head = (chain_of es a).head; count = (chain_of es b).count + 1 })

-- what such a step does to the lists
pub record Shifts (ns : List Node) (es : List Chain) (ns' : List Node) (es' : List Chain) (a b : ℕ) (l : Letter) : Type 0 where
  pub sound : IsSound ns' es'
  pub taken : newest ns es a ≡ (node_of ns (chain_of es a).head).letter ∷ newest ns' es' a
  pub put : newest ns' es' b ≡ l ∷ newest ns es b
  pub others : (c : ℕ) → c ≢ a → c ≢ b → newest ns' es' c ≡ newest ns es c
  pub from_count : (chain_of es a).count ≡ (chain_of es' a).count + 1
  pub to_count : (chain_of es' b).count ≡ (chain_of es b).count + 1
  pub size : length es' ≡ length es
  pub whole : length ns' ≡ length ns

-- what a new free node does to the lists
pub record Grows (ns : List Node) (es : List Chain) (ns' : List Node) (es' : List Chain) : Type 0 where
  pub sound : IsSound ns' es'
  pub others : (c : ℕ) → c ≢ 0 → newest ns' es' c ≡ newest ns es c
  pub count : (chain_of es' 0).count ≡ (chain_of es 0).count + 1
  pub size : length es' ≡ length es
