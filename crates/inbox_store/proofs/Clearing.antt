-- What a store has that was emptied.
use Rattle.std.proofs.Common.{◌≡◌, ◌≢◌, ℕ, suc, ◌+◌, ◌≤◌, List, [], ◌∷◌, map, length, drop, get_or, reverse, refl, sym, ap, ◌∙◌, arith}
use Rattle.std.specs.List.{sum_by}
use Rattle.std.proofs.lemmas.List.Sums.{sum_by-cons}
use Rattle.std.proofs.lemmas.List.{length-map, length-reverse, get_or_past}
use Rattle.inbox_store.specs.Chains.{no_chain, node_of, chain_of, walk, letters_at, newest, store, IsSound}
use Rattle.inbox_store.specs.Letters.{letter_count}
use Rattle.inbox_store.specs.declared.chains.Node.{Node}
use Rattle.inbox_store.specs.declared.chains.Chain.{Chain}
use Rattle.inbox_store.proofs.Fronts.{length_newest, length_walk, newest_none}

pub newest_past : (ns : List Node) (es : List Chain) (c : ℕ) → length es ≤ c → newest ns es c ≡ []
newest_past ns es c past = newest_none ns es c (ap (λ (e : Chain). e.count) (get_or_past es c no_chain past))

free_and_rest : (es : List Chain) → sum_by (λ e. e.count) es ≡ (chain_of es 0).count + sum_by (λ e. e.count) (drop 1 es)
free_and_rest [] = refl
free_and_rest (e ∷ es) = sum_by-cons (λ (e : Chain). e.count) e es

counted : (ns : List Node) (es : List Chain)
    → sum_by length (map (λ e. reverse (letters_at ns (walk ns e.count e.head))) es) ≡ sum_by (λ e. e.count) es
counted ns [] = refl
counted ns (e ∷ es) =
    let here : length (reverse (letters_at ns (walk ns e.count e.head))) ≡ e.count =
    length-reverse (letters_at ns (walk ns e.count e.head)) ∙ length-map (walk ns e.count e.head) (λ x. (node_of ns x).letter) ∙ length_walk ns e.count e.head in
    omega (
      arith,
      here,
      counted ns es,
      sum_by-cons (λ (e : Chain). e.count) e es,
      sum_by-cons length (reverse (letters_at ns (walk ns e.count e.head))) (map (λ e. reverse (letters_at ns (walk ns e.count e.head))) es),
    )

pub count_is : (ns : List Node) (es : List Chain) → letter_count (store ns es) ≡ sum_by (λ e. e.count) (drop 1 es)
count_is ns es = counted ns (drop 1 es)

all_none : (es : List Chain) → ((i : ℕ) → (get_or es i no_chain).count ≡ 0) → sum_by (λ e. e.count) es ≡ 0
all_none [] h = refl
all_none (e ∷ es) h = let here : e.count ≡ 0 = h 0 in let rest = all_none es (λ i. h (suc i)) in omega (arith, here, rest, sum_by-cons (λ (e : Chain). e.count) e es)

none_left : (ns : List Node) (es : List Chain) → ((c : ℕ) → c ≢ 0 → newest ns es c ≡ []) → sum_by (λ e. e.count) (drop 1 es) ≡ 0
none_left ns [] h = refl
none_left ns (e ∷ es) h = all_none es (λ i. sym (length_newest ns (e ∷ es) (suc i)) ∙ ap length (h (suc i) (λ same. omega (arith, same))))

-- all nodes are free then
pub cleared_spare : (ns ns' : List Node) (es es' : List Chain) → IsSound ns es → IsSound ns' es' → ((c : ℕ) → c ≢ 0 → newest ns' es' c ≡ [])
    → length ns' ≡ length ns
    → (chain_of es' 0).count ≡ (chain_of es 0).count + letter_count (store ns es)
cleared_spare ns ns' es es' s s' none size =
    omega (arith, free_and_rest es, free_and_rest es', count_is ns es, none_left ns' es' none, s.whole, s'.whole, size)
