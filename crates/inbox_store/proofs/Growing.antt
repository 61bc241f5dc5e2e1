-- More room: one more free node, or more lists without letters.
use Rattle.std.proofs.Common.{◌≡◌, ◌≢◌, ℕ, zero, suc, ◌+◌, ◌*◌, ◌<◌, cond, nat_eq, List, [], ◌∷◌, ◌++◌, length, get_or, set, replicate, refl, sym}
use Rattle.std.proofs.Common.{ap, ◌∙◌, subst, inl, inr, arith, add-one, length-set, length-append}
use Rattle.std.specs.List.{sum_by}
use Rattle.std.proofs.lemmas.Bool.{cases_eq}
use Rattle.std.proofs.lemmas.List.{get_or-set_same, get_or-set_other}
use Rattle.std.proofs.lemmas.List.Folds.{sum_by-replicate}
use Rattle.std.proofs.lemmas.List.Sums.{sum_by-set, sum_by-append}
use Rattle.std.proofs.Math.ListN.{get_or-append}
use Rattle.std.proofs.Math.Seq.{get_or-append_seam}
use Rattle.inbox_store.specs.Chains.{no_node, no_chain, node_of, chain_of, walk, places, letters_at, newest, IsIn, IsApart, IsSound, Grows}
use Rattle.actor_trait.specs.declared.letter.Letter.{Letter}
use Rattle.inbox_store.specs.declared.chains.Node.{Node}
use Rattle.inbox_store.specs.declared.chains.Chain.{Chain}
use Rattle.inbox_store.proofs.Shifting.{pick_same, pick_other}

-- a node behind all others changes no walk among them
pub walk_grown : (ns : List Node) (v : Node) (n y : ℕ) → ((x : ℕ) → IsIn x (walk ns n y) → x < length ns) → walk (ns ++ v ∷ []) n y ≡ walk ns n y
walk_grown ns v zero y h = refl
walk_grown ns v (suc n) y h =
    let here : get_or (ns ++ v ∷ []) y no_node ≡ get_or ns y no_node = get_or-append ns (v ∷ []) no_node y (h y (inl refl)) in
    rw here (ap (λ xs. y ∷ xs) (walk_grown ns v n (get_or ns y no_node).next (λ x there. h x (inr there))))

-- nor the letters
pub letters_grown : (ns : List Node) (v : Node) (ys : List ℕ) → ((x : ℕ) → IsIn x ys → x < length ns)
    → letters_at (ns ++ v ∷ []) ys ≡ letters_at ns ys
letters_grown ns v [] h = refl
letters_grown ns v (y ∷ ys) h =
    let here : get_or (ns ++ v ∷ []) y no_node ≡ get_or ns y no_node = get_or-append ns (v ∷ []) no_node y (h y (inl refl)) in
    rw here (ap (λ ls. (get_or ns y no_node).letter ∷ ls) (letters_grown ns v ys (λ x there. h x (inr there))))

module _ (ns : List Node) (es : List Chain) (l : Letter) (some : 0 < length es) (s : IsSound ns es) where
  abbrev fresh : Node
  fresh = record { letter = l; next = (chain_of es 0).head }

  abbrev nodes : List Node
  nodes = ns ++ fresh ∷ []

  abbrev longer : Chain
  longer = record { head = length ns; count = (chain_of es 0).count + 1 }

  abbrev chains : List Chain
  chains = set es 0 longer

  inside : (c x : ℕ) → IsIn x (places ns es c) → x < length ns
  inside c x h = (s.owned c x h).1

  more_nodes : length nodes ≡ length ns + 1
  more_nodes = length-append ns (fresh ∷ [])

  chain_free : chain_of chains 0 ≡ longer
  chain_free = get_or-set_same es 0 longer no_chain some

  chain_other : (c : ℕ) → c ≢ 0 → chain_of chains c ≡ chain_of es c
  chain_other c differs = get_or-set_other es 0 c longer no_chain differs

  new_free : places nodes chains 0 ≡ length ns ∷ places ns es 0
  new_free =
      let here : node_of nodes (length ns) ≡ fresh = get_or-append_seam ns fresh [] no_node in
      rw (chain_free, add-one, here) (ap (λ xs. length ns ∷ xs) (walk_grown ns fresh _ _ (inside 0)))

  new_other : (c : ℕ) → c ≢ 0 → places nodes chains c ≡ places ns es c
  new_other c differs = rw (chain_other c differs) (walk_grown ns fresh _ _ (inside c))

  owner' : ℕ → ℕ
  owner' y = cond (nat_eq y (length ns)) 0 (s.owner y)

  kept : (c y : ℕ) → IsIn y (places ns es c) → (owner' y ≡ c) × (y < length nodes)
  unfolding owner'
  kept c y h =
      let within : y < length ns = inside c y h in
      (pick_other y (length ns) 0 (s.owner y) (λ e. omega (arith, e)) ∙ (s.owned c y h).0, omega (arith, more_nodes))

  owned_free : (y : ℕ) → IsIn y (places nodes chains 0) → (owner' y ≡ 0) × (y < length nodes)
  unfolding owner'
  owned_free y h =
      elim (subst (IsIn y) new_free h) [
        | inl same ↦ (pick_same y (length ns) 0 (s.owner y) (sym same), omega (arith, more_nodes, same))
        | inr there ↦ kept 0 y there
      ]

  owned' : (c y : ℕ) → IsIn y (places nodes chains c) → (owner' y ≡ c) × (y < length nodes)
  owned' c y h =
      elim (cases_eq c 0) [
        | inl free ↦ subst (λ d. (owner' y ≡ d) × (y < length nodes)) (sym free) (owned_free y (subst (λ d. IsIn y (places nodes chains d)) free h))
        | inr other ↦ kept c y (subst (IsIn y) (new_other c other) h)
      ]

  apart_free : IsApart (places nodes chains 0)
  apart_free = subst IsApart (sym new_free) ((λ h. let within = inside 0 (length ns) h in absurd (omega (arith, within))), s.apart 0)

  apart' : (c : ℕ) → IsApart (places nodes chains c)
  apart' c =
      elim (cases_eq c 0) [
        | inl free ↦ subst (λ d. IsApart (places nodes chains d)) (sym free) apart_free
        | inr other ↦ subst IsApart (sym (new_other c other)) (s.apart c)
      ]

  whole' : sum_by (λ e. e.count) chains ≡ length nodes
  whole' =
      let one = sum_by-set (λ (e : Chain). e.count) es 0 longer no_chain some in
      omega (arith, one, s.whole, more_nodes)

  pub grows : Grows ns es nodes chains
  grows = record {
    sound = record { owner = owner'; owned = owned'; apart = apart'; whole = whole' };
    others = λ c other. ap (letters_at nodes) (new_other c other) ∙ letters_grown ns fresh _ (inside c);
    count = ap (λ (e : Chain). e.count) chain_free;
    size = length-set es 0 longer;
  }

replicate_none : (k c : ℕ) → get_or (replicate k no_chain) c no_chain ≡ no_chain
replicate_none zero c = refl
replicate_none (suc k) zero = refl
replicate_none (suc k) (suc c) = replicate_none k c

-- lists without letters, behind all others, are what is read past the end
pub chain_grown : (es : List Chain) (k c : ℕ) → chain_of (es ++ replicate k no_chain) c ≡ chain_of es c
chain_grown [] k c = replicate_none k c
chain_grown (e ∷ es) k zero = refl
chain_grown (e ∷ es) k (suc c) = chain_grown es k c

pub count_grown : (es : List Chain) (k : ℕ) → sum_by (λ e. e.count) (es ++ replicate k no_chain) ≡ sum_by (λ e. e.count) es
count_grown es k =
    let none : k * 0 ≡ 0 = omega arith in
    omega (arith, sum_by-append (λ (e : Chain). e.count) es (replicate k no_chain), sum_by-replicate (λ (e : Chain). e.count) k no_chain, none)

-- soundness asks only what is read
pub sound_same : (ns : List Node) (es es' : List Chain) → ((c : ℕ) → chain_of es' c ≡ chain_of es c)
    → sum_by (λ e. e.count) es' ≡ sum_by (λ e. e.count) es → IsSound ns es → IsSound ns es'
sound_same ns es es' same count s = record {
  owner = s.owner;
  owned = λ c x h. s.owned c x (subst (λ (e : Chain). IsIn x (walk ns e.count e.head)) (same c) h);
  apart = λ c. subst (λ (e : Chain). IsApart (walk ns e.count e.head)) (sym (same c)) (s.apart c);
  whole = count ∙ s.whole;
}

pub newest_same : (ns : List Node) (es es' : List Chain) (c : ℕ) → chain_of es' c ≡ chain_of es c → newest ns es' c ≡ newest ns es c
newest_same ns es es' c same = ap (λ (e : Chain). letters_at ns (walk ns e.count e.head)) same
