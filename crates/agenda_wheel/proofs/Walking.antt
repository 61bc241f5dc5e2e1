-- From the head of a list by `next`: all of the list, and nothing else, and no node twice.
use Rattle.std.proofs.Common.{◌≡◌, ◌≢◌, ◌⊎◌, ℕ, zero, suc, ◌+◌, ◌-◌, ◌<◌, ◌≤◌, Option, Some, sym, ap, ◌∙◌, subst, inl, inr, arith}
use Rattle.std.proofs.lemmas.Bool.{cases_eq}
use Rattle.agenda_wheel.specs.Linked.{Linked}
use Rattle.agenda_wheel.proofs.Pigeons.{fits}

-- the node that so many steps lead to
abbrev pub visited : (ℕ → ℕ) → ℕ → ℕ → ℕ
visited next h zero = h
visited next h (suc n) = next (visited next h n)

module _ (next prev head : ℕ → ℕ) (color : ℕ → Option ℕ) (nil : ℕ) (l : Linked next prev head color nil) (c : ℕ) where
  reached_from : (m x : ℕ) → l.rank x < m → color x ≡ Some c → (n : ℕ) × (visited next (head c) n ≡ x)
  reached_from zero x b h = absurd (omega arith)
  reached_from (suc m) x b h =
      elim (cases_eq (prev x) nil) [
        | inl e ↦ (zero, l.first x c h e)
        | inr ne ↦
            let p = l.before x c h ne in
            let r = reached_from m (prev x) (omega (arith, p.2)) p.0 in
            (suc r.0, ap next r.1 ∙ p.1)
      ]

  -- each node of the list is visited
  pub reached : (x : ℕ) → color x ≡ Some c → (n : ℕ) × (visited next (head c) n ≡ x)
  reached x h = reached_from (suc (l.rank x)) x (omega arith) h

  module _ (stays : next nil ≡ nil) where
    -- what is visited is of the list
    pub of_list : (n : ℕ) → visited next (head c) n ≢ nil → color (visited next (head c) n) ≡ Some c
    of_list zero ne = (l.heads c ne).0
    of_list (suc n) ne = (l.after (visited next (head c) n) c (of_list n (λ z. ne (ap next z ∙ stays))) ne).0

    -- a later node is another
    pub rises : (n : ℕ) → visited next (head c) (suc n) ≢ nil → l.rank (visited next (head c) n) < l.rank (visited next (head c) (suc n))
    rises n ne =
        let h = of_list n (λ z. ne (ap next z ∙ stays)) in
        let a = l.after (visited next (head c) n) c h ne in
        let real : visited next (head c) n ≢ nil = λ z. ne (ap next z ∙ stays) in
        let b = l.before (visited next (head c) (suc n)) c a.0 (λ z. real (sym a.1 ∙ z)) in
        let e = ap l.rank a.1 in
        omega (arith, b.2, e)

    past_end : (n k : ℕ) → visited next (head c) n ≡ nil → visited next (head c) (k + n) ≡ nil
    past_end n zero e = let z : 0 + n ≡ n = omega arith in rw z e
    past_end n (suc k) e = let z : suc k + n ≡ suc (k + n) = omega arith in rw z (ap next (past_end n k e) ∙ stays)

    -- where a walk has ended, each node of the list was visited before
    pub ended : (n x : ℕ) → visited next (head c) n ≡ nil → color x ≡ Some c → (i : ℕ) × (i < n) × (visited next (head c) i ≡ x)
    ended n x e h =
        let r = reached x h in
        let inside : r.0 < n = below r.0 r.1 in
        (r.0, inside, r.1)
      where
        below : (i : ℕ) → visited next (head c) i ≡ x → i < n
        below i at =
            elim (cases_eq ((i - n) + n) i) [
              | inl z ↦
                  let q : visited next (head c) i ≡ nil = subst (λ k. visited next (head c) k ≡ nil) z (past_end n (i - n) e) in
                  let same : x ≡ nil = sym at ∙ q in
                  absurd (omega (arith, l.below x c h, same))
              | inr z ↦ omega (arith, z)
            ]

    climbs : (i k : ℕ) → visited next (head c) (suc k + i) ≢ nil → l.rank (visited next (head c) i) < l.rank (visited next (head c) (suc k + i))
    climbs i zero ne =
        let z : suc zero + i ≡ suc i = omega arith in
        rw z (rises i (rw z at ne))
    climbs i (suc k) ne =
        let z : suc (suc k) + i ≡ suc (suc k + i) = omega arith in
        let ne' : next (visited next (head c) (suc k + i)) ≢ nil = rw z at ne in
        let h = climbs i k (λ q. ne' (ap next q ∙ stays)) in
        let r = rises (suc k + i) ne' in
        rw z (omega (arith, h, r))

    -- two nodes of a walk are different
    pub later : (i j : ℕ) → i < j → visited next (head c) j ≢ nil → visited next (head c) i ≡ visited next (head c) j → ⊥
    later i j p q e =
        let z : suc (j - suc i) + i ≡ j = omega arith in
        let r = climbs i (j - suc i) (rw (← z) at q) in
        let r2 = rw z at r in
        let same = ap l.rank e in
        absurd (omega (arith, r2, same))

    -- a walk that has not ended has taken no more steps than there are numbers
    pub bounded : (size n : ℕ) → ((x : ℕ) → color x ≡ Some c → x < size) → ((i : ℕ) → i < n → visited next (head c) i ≢ nil) → n ≤ size
    bounded size n inside real =
        fits size n (visited next (head c))
        (λ i j p q e. elim (cases_eq i j) [
          | inl z ↦ z
          | inr z ↦
              elim (cases_eq (suc i - j) 0) [
                | inl less ↦ absurd (later i j (omega (arith, less)) (real j q) e)
                | inr more ↦ absurd (later j i (omega (arith, more, z)) (real i p) (sym e))
              ]
        ])
        (λ i p. inside (visited next (head c) i) (of_list i (real i p)))

    first_end : (m : ℕ) → ((i : ℕ) → i < m → visited next (head c) i ≢ nil) ⊎ ((n : ℕ) × (n < m) × (visited next (head c) n ≡ nil)
        × ((i : ℕ) → i < n → visited next (head c) i ≢ nil))
    first_end zero = inl (λ i p e. omega (arith, p))
    first_end (suc m) =
        elim (first_end m) [
          | inl f ↦ elim (cases_eq (visited next (head c) m) nil) [
            | inl e ↦ inr (m, omega arith, e, f)
            | inr ne ↦ inl (λ i p. elim (cases_eq i m) [
              | inl s ↦ λ e. ne (ap (visited next (head c)) (sym s) ∙ e)
              | inr o ↦ f i (omega (arith, p, o))
            ])
          ]
          | inr k ↦ inr (k.0, omega (arith, k.1), k.2, k.3)
        ]

    -- a walk ends, and takes no more steps than there are numbers
    pub stops : (size : ℕ) → ((x : ℕ) → color x ≡ Some c → x < size) → (n : ℕ) × (n ≤ size) × (visited next (head c) n ≡ nil)
        × ((i : ℕ) → i < n → visited next (head c) i ≢ nil)
    stops size inside =
        elim (first_end (suc size)) [
          | inl f ↦ let b = bounded size (suc size) inside f in absurd (omega (arith, b))
          | inr k ↦ (k.0, omega (arith, k.1), k.2, k.3)
        ]
