-- One node goes from the front of a list to the front of another.
use Rattle.std.proofs.Common.{◌≡◌, ◌≢◌, ℕ, zero, suc, ◌+◌, ◌-◌, ◌<◌, ◌≤◌, cond, nat_eq, List, [], ◌∷◌, length, get_or, set, refl, sym, ap, ◌∙◌}
use Rattle.std.proofs.Common.{subst, inl, inr, arith, add-one, length-set}
use Rattle.std.specs.List.{sum_by}
use Rattle.std.proofs.lemmas.Bool.{cases_eq}
use Rattle.std.proofs.lemmas.Bool.Decides.{nat_tests}
use Rattle.std.proofs.lemmas.List.{get_or-set_same, get_or-set_other}
use Rattle.std.proofs.lemmas.List.Sums.{sum_by-set, get_or-le-sum_by}
use Rattle.inbox_store.specs.Chains.{no_node, no_chain, node_of, chain_of, walk, places, letters_at, IsIn, IsApart, IsSound, Shifts, shifted_nodes}
use Rattle.inbox_store.specs.Chains.{shifted_chains}
use Rattle.actor_trait.specs.declared.letter.Letter.{Letter}
use Rattle.inbox_store.specs.declared.chains.Node.{Node}
use Rattle.inbox_store.specs.declared.chains.Chain.{Chain}

pub pick_same : (y x b o : ℕ) → y ≡ x → cond (nat_eq y x) b o ≡ b
pick_same y x b o e = grind (arith, nat_tests)

pub pick_other : (y x b o : ℕ) → y ≢ x → cond (nat_eq y x) b o ≡ o
pick_other y x b o e = grind (arith, nat_tests)

-- a write at a node that is not on the way changes no walk
pub walk_kept : (ns : List Node) (x : ℕ) (v : Node) (n y : ℕ) → ¬ IsIn x (walk ns n y) → walk (set ns x v) n y ≡ walk ns n y
walk_kept ns x v zero y out = refl
walk_kept ns x v (suc n) y out =
    let here : get_or (set ns x v) y no_node ≡ get_or ns y no_node = get_or-set_other ns x y v no_node (λ same. out (inl same)) in
    rw here (ap (λ xs. y ∷ xs) (walk_kept ns x v n (get_or ns y no_node).next (λ h. out (inr h))))

-- nor the letters
pub letters_kept : (ns : List Node) (x : ℕ) (v : Node) (ys : List ℕ) → ¬ IsIn x ys → letters_at (set ns x v) ys ≡ letters_at ns ys
letters_kept ns x v [] out = refl
letters_kept ns x v (y ∷ ys) out =
    let here : get_or (set ns x v) y no_node ≡ get_or ns y no_node = get_or-set_other ns x y v no_node (λ same. out (inl same)) in
    rw here (ap (λ ls. (get_or ns y no_node).letter ∷ ls) (letters_kept ns x v ys (λ h. out (inr h))))

module _ (ns : List Node) (es : List Chain) (a b : ℕ) (l : Letter) (differ : a ≢ b) (al : a < length es) (bl : b < length es) (n : ℕ) (count : (chain_of es a).count ≡ suc n) (s : IsSound ns es) where
  abbrev first : ℕ
  first = (chain_of es a).head

  abbrev rest : List ℕ
  rest = walk ns n (node_of ns first).next

  abbrev nodes : List Node
  nodes = shifted_nodes ns es a b l

  abbrev chains : List Chain
  chains = shifted_chains ns es a b

  pub old_from : places ns es a ≡ first ∷ rest
  old_from = rw count refl

  pub first_in : first < length ns
  first_in = (s.owned a first (rw old_from (inl refl))).1

  out_rest : ¬ IsIn first rest
  out_rest = (subst IsApart old_from (s.apart a)).0

  out_other : (c : ℕ) → c ≢ a → ¬ IsIn first (places ns es c)
  out_other c differs h =
      differs (sym (s.owned c first h).0 ∙ (s.owned a first (rw old_from (inl refl))).0)

  end_to : chain_of chains b ≡ record { head = first; count = (chain_of es b).count + 1 }
  end_to = get_or-set_same _ b _ no_chain (omega (arith, length-set {A = Chain}))

  end_from : chain_of chains a ≡ record { head = (node_of ns first).next; count = (chain_of es a).count - 1 }
  end_from = get_or-set_other _ b a _ no_chain differ ∙ get_or-set_same es a _ no_chain al

  end_other : (c : ℕ) → c ≢ a → c ≢ b → chain_of chains c ≡ chain_of es c
  end_other c na nb = get_or-set_other _ b c _ no_chain nb ∙ get_or-set_other es a c _ no_chain na

  pub new_from : places nodes chains a ≡ rest
  new_from =
      let less : (chain_of es a).count - 1 ≡ n = omega arith in
      rw (end_from, less) (walk_kept ns first _ n _ out_rest)

  pub new_to : places nodes chains b ≡ first ∷ places ns es b
  new_to =
      let here : node_of nodes first ≡ record { letter = l; next = (chain_of es b).head } = get_or-set_same ns first _ no_node first_in in
      rw (end_to, add-one, here) (ap (λ xs. first ∷ xs) (walk_kept ns first _ _ _ (out_other b (λ same. differ (sym same)))))

  pub new_other : (c : ℕ) → c ≢ a → c ≢ b → places nodes chains c ≡ places ns es c
  new_other c na nb = rw (end_other c na nb) (walk_kept ns first _ _ _ (out_other c na))

  owner' : ℕ → ℕ
  owner' y = cond (nat_eq y first) b (s.owner y)

  kept : (c y : ℕ) → IsIn y (places ns es c) → y ≢ first → (owner' y ≡ c) × (y < length nodes)
  unfolding owner'
  kept c y h differs = (
    pick_other y first b (s.owner y) differs ∙ (s.owned c y h).0,
    rw (length-set ns first (record { letter = l; next = (chain_of es b).head })) (s.owned c y h).1,
  )

  owned_to : (y : ℕ) → IsIn y (places nodes chains b) → (owner' y ≡ b) × (y < length nodes)
  unfolding owner'
  owned_to y h =
      elim (subst (IsIn y) new_to h) [
        | inl same ↦ (pick_same y first b (s.owner y) (sym same), rw (length-set ns first (record { letter = l; next = (chain_of es b).head })) (subst (λ z. z < length ns) same first_in))
        | inr there ↦ kept b y there (λ same. out_other b (λ e. differ (sym e)) (subst (λ z. IsIn z (places ns es b)) same there))
      ]

  owned_from : (y : ℕ) → IsIn y (places nodes chains a) → (owner' y ≡ a) × (y < length nodes)
  owned_from y h =
      let there : IsIn y rest = subst (IsIn y) new_from h in
      kept a y (subst (IsIn y) (sym old_from) (inr there)) (λ same. out_rest (subst (λ z. IsIn z rest) same there))

  owned' : (c y : ℕ) → IsIn y (places nodes chains c) → (owner' y ≡ c) × (y < length nodes)
  owned' c y h =
      elim (cases_eq c b) [
        | inl cb ↦ subst (λ d. (owner' y ≡ d) × (y < length nodes)) (sym cb) (owned_to y (subst (λ d. IsIn y (places nodes chains d)) cb h))
        | inr nb ↦
            elim (cases_eq c a) [
              | inl ca ↦ subst (λ d. (owner' y ≡ d) × (y < length nodes)) (sym ca) (owned_from y (subst (λ d. IsIn y (places nodes chains d)) ca h))
              | inr na ↦
                  let there : IsIn y (places ns es c) = subst (IsIn y) (new_other c na nb) h in
                  kept c y there (λ same. out_other c na (subst (λ z. IsIn z (places ns es c)) same there))
            ]
      ]

  apart' : (c : ℕ) → IsApart (places nodes chains c)
  apart' c =
      elim (cases_eq c b) [
        | inl cb ↦ subst (λ d. IsApart (places nodes chains d)) (sym cb) (subst IsApart (sym new_to) (out_other b (λ e. differ (sym e)), s.apart b))
        | inr nb ↦
            elim (cases_eq c a) [
              | inl ca ↦ subst (λ d. IsApart (places nodes chains d)) (sym ca) (subst IsApart (sym new_from) (subst IsApart old_from (s.apart a)).1)
              | inr na ↦ subst IsApart (sym (new_other c na nb)) (s.apart c)
            ]
      ]

  abbrev emptied : Chain
  emptied = record { head = (node_of ns first).next; count = (chain_of es a).count - 1 }

  whole' : sum_by (λ e. e.count) chains ≡ length nodes
  whole' =
      let one = sum_by-set (λ (e : Chain). e.count) es a emptied no_chain al in
      let two = sum_by-set (λ (e : Chain). e.count) (set es a emptied) b (record { head = first; count = (chain_of es b).count + 1 }) no_chain (omega (arith, length-set {A = Chain})) in
      let same : get_or (set es a emptied) b no_chain ≡ chain_of es b = get_or-set_other es a b emptied no_chain (λ e. differ (sym e)) in
      omega (arith, one, two, ap (λ (e : Chain). e.count) same, s.whole, length-set ns first (record { letter = l; next = (chain_of es b).head }))

  -- the list that grows has fewer nodes than there are
  pub room : (chain_of es b).count + 1 ≤ length ns
  room =
      let one = sum_by-set (λ (e : Chain). e.count) es a no_chain no_chain al in
      let below = get_or-le-sum_by (λ (e : Chain). e.count) (set es a no_chain) b no_chain (omega (arith, length-set {A = Chain})) in
      let same : get_or (set es a no_chain) b no_chain ≡ chain_of es b = get_or-set_other es a b no_chain no_chain (λ e. differ (sym e)) in
      omega (arith, one, below, ap (λ (e : Chain). e.count) same, s.whole)

  pub shifts : Shifts ns es nodes chains a b l
  shifts = record {
    sound = record { owner = owner'; owned = owned'; apart = apart'; whole = whole' };
    taken = ap (letters_at ns) old_from ∙ ap (λ ls. (node_of ns first).letter ∷ ls) (sym (ap (letters_at nodes) new_from ∙ letters_kept ns first _ rest out_rest));
    put =
        let here : node_of nodes first ≡ record { letter = l; next = (chain_of es b).head } = get_or-set_same ns first _ no_node first_in in
        ap (letters_at nodes) new_to ∙ rw here (ap (λ ls. l ∷ ls) (letters_kept ns first _ _ (out_other b (λ e. differ (sym e)))));
    others = λ c na nb. ap (letters_at nodes) (new_other c na nb) ∙ letters_kept ns first _ _ (out_other c na);
    from_count = rw end_from (omega arith);
    to_count = ap (λ (e : Chain). e.count) end_to;
    size = omega (arith, length-set {A = Chain});
    whole = length-set ns first (record { letter = l; next = (chain_of es b).head });
  }
