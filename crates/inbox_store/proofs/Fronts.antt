-- The first node of a list, and how many there are.
use Rattle.std.proofs.Common.{◌≡◌, ℕ, zero, suc, ◌-◌, ◌<◌, List, [], ◌∷◌, length, refl, ap, ◌∙◌, inl, inr, arith}
use Rattle.std.proofs.lemmas.List.{length-map}
use Rattle.inbox_store.specs.Chains.{node_of, chain_of, walk, places, letters_at, newest, IsIn, IsSound}
use Rattle.inbox_store.specs.declared.chains.Node.{Node}
use Rattle.inbox_store.specs.declared.chains.Chain.{Chain}

pub walk_more : (ns : List Node) (n x : ℕ) → 0 < n → walk ns n x ≡ x ∷ walk ns (n - 1) (node_of ns x).next
walk_more ns zero x h = absurd (omega arith)
walk_more ns (suc n) x h = let less : suc n - 1 ≡ n = omega arith in rw less refl

pub length_walk : (ns : List Node) (n x : ℕ) → length (walk ns n x) ≡ n
length_walk ns zero x = refl
length_walk ns (suc n) x = ap suc (length_walk ns n (node_of ns x).next)

pub length_newest : (ns : List Node) (es : List Chain) (c : ℕ) → length (newest ns es c) ≡ (chain_of es c).count
length_newest ns es c = length-map (places ns es c) (λ x. (node_of ns x).letter) ∙ length_walk ns _ _

pub front_in : (ns : List Node) (es : List Chain) (c : ℕ) → IsSound ns es → 0 < (chain_of es c).count → (chain_of es c).head < length ns
front_in ns es c s some = (s.owned c (chain_of es c).head (rw (walk_more ns (chain_of es c).count (chain_of es c).head some) (inl refl))).1

pub newest_none : (ns : List Node) (es : List Chain) (c : ℕ) → (chain_of es c).count ≡ 0 → newest ns es c ≡ []
newest_none ns es c none = rw none refl

-- a step of a walk
pub inside_here : (ns : List Node) (n x : ℕ) → 0 < n → ((y : ℕ) → IsIn y (walk ns n x) → y < length ns) → x < length ns
inside_here ns n x some h = h x (rw (walk_more ns n x some) (inl refl))

pub inside_more : (ns : List Node) (n x : ℕ) → 0 < n → ((y : ℕ) → IsIn y (walk ns n x) → y < length ns) → (y : ℕ)
    → IsIn y (walk ns (n - 1) (node_of ns x).next) → y < length ns
inside_more ns n x some h y there = h y (rw (walk_more ns n x some) (inr there))

pub letters_more : (ns : List Node) (n x : ℕ) → 0 < n
    → letters_at ns (walk ns n x) ≡ (node_of ns x).letter ∷ letters_at ns (walk ns (n - 1) (node_of ns x).next)
letters_more ns n x some = ap (letters_at ns) (walk_more ns n x some)
