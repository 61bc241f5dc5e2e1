-- A node leaves its list, or joins one, and all stays linked.
use Rattle.std.proofs.Common.{◌≡◌, ◌≢◌, ℕ, zero, suc, ◌<◌, cond, nat_eq, Option, Some, None, sym, ap, ◌∙◌, inl}
use Rattle.std.proofs.Common.{inr, arith}
use Rattle.std.proofs.lemmas.Bool.{cases_eq}
use Rattle.std.proofs.lemmas.Bool.Decides.{nat_tests}
use Rattle.std.proofs.lemmas.Option.{none-some, same_Some}
use Rattle.agenda_wheel.specs.Linked.{Linked, Cut, Put}

module _ (next prev head : ℕ → ℕ) (color : ℕ → Option ℕ) (nil : ℕ) (l : Linked next prev head color nil) where
  real : (x c : ℕ) → color x ≡ Some c → x ≢ nil
  real x c h e = let b = l.below x c h in omega (arith, b, e)

  one : (x c d : ℕ) → color x ≡ Some c → color x ≡ Some d → c ≡ d
  one x c d p q = same_Some c d (sym p ∙ q)

  -- a list whose head is no node has no node
  none_from : (n x c : ℕ) → l.rank x < n → color x ≡ Some c → head c ≢ nil
  none_from zero x c b h = absurd (omega arith)
  none_from (suc n) x c b h =
      elim (cases_eq (prev x) nil) [
        | inl e ↦ λ z. real x c h (sym (l.first x c h e) ∙ z)
        | inr ne ↦ let p = l.before x c h ne in none_from n (prev x) c (omega (arith, p.2)) p.0
      ]

  pub some_head : (x c : ℕ) → color x ≡ Some c → head c ≢ nil
  some_head x c h = none_from (suc (l.rank x)) x c (omega arith) h

  module _ (next' prev' head' : ℕ → ℕ) (color' : ℕ → Option ℕ) (x c : ℕ) (kept : (y : ℕ) → y ≢ x → color' y ≡ color y) where
    module _ (at : color x ≡ Some c) (gone : color' x ≡ None) (cut : Cut next prev head next' prev' head' x c nil) where
      other : (y d : ℕ) → color' y ≡ Some d → y ≢ x
      other y d h e = none-some d (sym gone ∙ ap color' (sym e) ∙ h)

      old : (y d : ℕ) → color' y ≡ Some d → color y ≡ Some d
      old y d h = sym (kept y (other y d h)) ∙ h

      rank_next : next x ≢ nil → l.rank x < l.rank (next x)
      rank_next ne =
          let a = l.after x c at ne in
          let b = l.before (next x) c a.0 (λ e. real x c at (sym a.1 ∙ e)) in
          let same : l.rank (prev (next x)) ≡ l.rank x = ap l.rank a.1 in
          omega (arith, b.2, same)

      next_differs : next x ≢ nil → next x ≢ x
      next_differs ne e = let r = rank_next ne in let same : l.rank (next x) ≡ l.rank x = ap l.rank e in omega (arith, r, same)

      prev_differs : prev x ≢ nil → prev x ≢ x
      prev_differs ne e = let r = (l.before x c at ne).2 in let same : l.rank (prev x) ≡ l.rank x = ap l.rank e in omega (arith, r, same)

      cut_first : (y d : ℕ) → color' y ≡ Some d → prev' y ≡ nil → head' d ≡ y
      cut_first y d h e =
          let hy = old y d h in
          elim (cases_eq y (next x)) [
            | inl s ↦
                let ne : next x ≢ nil = λ z. real y d hy (s ∙ z) in
                let px : prev x ≡ nil = sym (cut.prev_at ne) ∙ ap prev' (sym s) ∙ e in
                let same : d ≡ c = one y d c hy (ap color s ∙ (l.after x c at ne).0) in
                ap head' same ∙ cut.head_first px ∙ sym s
            | inr ns ↦
                let py : prev y ≡ nil = sym (cut.prevs y (real y d hy) ns) ∙ e in
                let hd : head d ≡ y = l.first y d hy py in
                elim (cases_eq d c) [
                  | inl same ↦
                      ap head' same
                      ∙ cut.head_later (λ z. other y d h (sym hd ∙ ap head same ∙ l.first x c at z))
                      ∙ ap head (sym same) ∙ hd
                  | inr nd ↦ cut.heads d nd ∙ hd
                ]
          ]

      cut_before : (y d : ℕ) → color' y ≡ Some d → prev' y ≢ nil → (color' (prev' y) ≡ Some d) × (next' (prev' y) ≡ y)
          × (l.rank (prev' y) < l.rank y)
      cut_before y d h ne =
          let hy = old y d h in
          elim (cases_eq y (next x)) [
            | inl s ↦
                let nx : next x ≢ nil = λ z. real y d hy (s ∙ z) in
                let to : prev' y ≡ prev x = ap prev' s ∙ cut.prev_at nx in
                let px : prev x ≢ nil = λ z. ne (to ∙ z) in
                let b = l.before x c at px in
                let same : d ≡ c = one y d c hy (ap color s ∙ (l.after x c at nx).0) in
                let r1 = rank_next nx in
                let r2 : l.rank (prev' y) ≡ l.rank (prev x) = ap l.rank to in
                let r3 : l.rank y ≡ l.rank (next x) = ap l.rank s in (
                  ap color' to ∙ kept (prev x) (prev_differs px) ∙ b.0 ∙ ap Some (sym same),
                  ap next' to ∙ cut.next_at px
                      ∙ sym s,
                  omega (arith, b.2, r1, r2, r3),
                )
            | inr ns ↦
                let to : prev' y ≡ prev y = cut.prevs y (real y d hy) ns in
                let py : prev y ≢ nil = λ z. ne (to ∙ z) in
                let b = l.before y d hy py in
                let px : prev y ≢ x = λ z. ns (sym b.1 ∙ ap next z) in
                let pp : prev y ≢ prev x = λ z. other y d h (sym b.1 ∙ ap next z ∙ (l.before x c at (λ q. py (z ∙ q))).1) in
                let r2 : l.rank (prev' y) ≡ l.rank (prev y) = ap l.rank to in
                (ap color' to ∙ kept (prev y) px ∙ b.0, ap next' to ∙ cut.nexts (prev y) py pp ∙ b.1, omega (arith, b.2, r2))
          ]

      cut_after : (y d : ℕ) → color' y ≡ Some d → next' y ≢ nil → (color' (next' y) ≡ Some d) × (prev' (next' y) ≡ y)
      cut_after y d h ne =
          let hy = old y d h in
          elim (cases_eq y (prev x)) [
            | inl s ↦
                let px : prev x ≢ nil = λ z. real y d hy (s ∙ z) in
                let to : next' y ≡ next x = ap next' s ∙ cut.next_at px in
                let nx : next x ≢ nil = λ z. ne (to ∙ z) in
                let same : d ≡ c = one y d c hy (ap color s ∙ (l.before x c at px).0) in (
                  ap color' to ∙ kept (next x) (next_differs nx) ∙ (l.after x c at nx).0 ∙ ap Some (sym same),
                  ap prev' to ∙ cut.prev_at nx
                      ∙ sym s,
                )
            | inr ns ↦
                let to : next' y ≡ next y = cut.nexts y (real y d hy) ns in
                let ny : next y ≢ nil = λ z. ne (to ∙ z) in
                let a = l.after y d hy ny in
                let nx : next y ≢ x = λ z. ns (sym a.1 ∙ ap prev z) in
                let nn : next y ≢ next x = λ z. other y d h (sym a.1 ∙ ap prev z ∙ (l.after x c at (λ q. ny (z ∙ q))).1) in
                (ap color' to ∙ kept (next y) nx ∙ a.0, ap prev' to ∙ cut.prevs (next y) ny nn ∙ a.1)
          ]

      cut_heads : (d : ℕ) → head' d ≢ nil → (color' (head' d) ≡ Some d) × (prev' (head' d) ≡ nil)
      cut_heads d ne =
          elim (cases_eq d c) [
            | inl same ↦
                elim (cases_eq (prev x) nil) [
                  | inl px ↦
                      let to : head' d ≡ next x = ap head' same ∙ cut.head_first px in
                      let nx : next x ≢ nil = λ z. ne (to ∙ z) in (
                        ap color' to ∙ kept (next x) (next_differs nx) ∙ (l.after x c at nx).0 ∙ ap Some (sym same),
                        ap prev' to ∙ cut.prev_at nx
                            ∙ px,
                      )
                  | inr px ↦
                      let to : head' d ≡ head c = ap head' same ∙ cut.head_later px in
                      let hc : head c ≢ nil = λ z. ne (to ∙ z) in
                      let k = l.heads c hc in
                      let hx : head c ≢ x = λ z. px (ap prev (sym z) ∙ k.1) in
                      let hn : head c ≢ next x = λ z. real x c at (sym (l.after x c at (λ q. hc (z ∙ q))).1 ∙ ap prev (sym z) ∙ k.1) in
                      (ap color' to ∙ kept (head c) hx ∙ k.0 ∙ ap Some (sym same), ap prev' to ∙ cut.prevs (head c) hc hn ∙ k.1)
                ]
            | inr nd ↦
                let to : head' d ≡ head d = cut.heads d nd in
                let hd : head d ≢ nil = λ z. ne (to ∙ z) in
                let k = l.heads d hd in
                let hx : head d ≢ x = λ z. nd (one x d c (ap color (sym z) ∙ k.0) at) in
                let hn : head d ≢ next x = λ z. nd (one (head d) d c k.0 (ap color z ∙ (l.after x c at (λ q. hd (z ∙ q))).0)) in
                (ap color' to ∙ kept (head d) hx ∙ k.0, ap prev' to ∙ cut.prevs (head d) hd hn ∙ k.1)
          ]

      pub cut_linked : Linked next' prev' head' color' nil
      cut_linked = record {
        rank = l.rank;
        below = λ y d h. l.below y d (old y d h);
        first = cut_first;
        before = cut_before;
        after = cut_after;
        heads = cut_heads;
      }

    module _ (free : color x ≡ None) (now : color' x ≡ Some c) (fits : x < nil) (put : Put next prev head next' prev' head' x c nil) where
      rank' : ℕ → ℕ
      rank' y = cond (nat_eq y x) 0 (suc (l.rank y))

      rank_here : rank' x ≡ 0
      unfolding rank'
      rank_here = grind (arith, nat_tests)

      rank_there : (y : ℕ) → y ≢ x → rank' y ≡ suc (l.rank y)
      unfolding rank'
      rank_there y ne = grind (arith, nat_tests)

      apart : (y d : ℕ) → color y ≡ Some d → y ≢ x
      apart y d h e = none-some d (sym free ∙ ap color (sym e) ∙ h)

      x_real : x ≢ nil
      x_real e = omega (arith, e, fits)

      put_below : (y d : ℕ) → color' y ≡ Some d → y < nil
      put_below y d h = elim (cases_eq y x) [ inl s ↦ omega (arith, s, fits) | inr ns ↦ l.below y d (sym (kept y ns) ∙ h) ]

      put_first : (y d : ℕ) → color' y ≡ Some d → prev' y ≡ nil → head' d ≡ y
      put_first y d h e =
          elim (cases_eq y x) [
            | inl s ↦ let same : d ≡ c = same_Some d c (sym h ∙ ap color' s ∙ now) in ap head' same ∙ put.head_here ∙ sym s
            | inr ns ↦
                let hy : color y ≡ Some d = sym (kept y ns) ∙ h in
                let nh : y ≢ head c = λ z. x_real (sym (put.back (λ q. real y d hy (z ∙ q))) ∙ ap prev' (sym z) ∙ e) in
                let hd : head d ≡ y = l.first y d hy (sym (put.prevs y (real y d hy) ns nh) ∙ e) in
                put.heads d (λ same. nh (sym hd ∙ ap head same)) ∙ hd
          ]

      put_before : (y d : ℕ) → color' y ≡ Some d → prev' y ≢ nil → (color' (prev' y) ≡ Some d) × (next' (prev' y) ≡ y)
          × (rank' (prev' y) < rank' y)
      put_before y d h ne =
          elim (cases_eq y x) [
            | inl s ↦ absurd (ne (ap prev' s ∙ put.prev_here))
            | inr ns ↦
                let hy : color y ≡ Some d = sym (kept y ns) ∙ h in
                let ry = rank_there y ns in
                elim (cases_eq y (head c)) [
                  | inl s ↦
                      let hc : head c ≢ nil = λ q. real y d hy (s ∙ q) in
                      let to : prev' y ≡ x = ap prev' s ∙ put.back hc in
                      let same : c ≡ d = one y c d (ap color s ∙ (l.heads c hc).0) hy in
                      let rx : rank' (prev' y) ≡ 0 = ap rank' to ∙ rank_here in
                      (ap color' to ∙ now ∙ ap Some same, ap next' to ∙ put.next_here ∙ sym s, omega (arith, rx, ry))
                  | inr nh ↦
                      let to : prev' y ≡ prev y = put.prevs y (real y d hy) ns nh in
                      let py : prev y ≢ nil = λ z. ne (to ∙ z) in
                      let b = l.before y d hy py in
                      let px = apart (prev y) d b.0 in
                      let rp : rank' (prev' y) ≡ suc (l.rank (prev y)) = ap rank' to ∙ rank_there (prev y) px in
                      (ap color' to ∙ kept (prev y) px ∙ b.0, ap next' to ∙ put.nexts (prev y) py px ∙ b.1, omega (arith, rp, ry, b.2))
                ]
          ]

      put_after : (y d : ℕ) → color' y ≡ Some d → next' y ≢ nil → (color' (next' y) ≡ Some d) × (prev' (next' y) ≡ y)
      put_after y d h ne =
          elim (cases_eq y x) [
            | inl s ↦
                let to : next' y ≡ head c = ap next' s ∙ put.next_here in
                let hc : head c ≢ nil = λ z. ne (to ∙ z) in
                let k = l.heads c hc in
                let same : c ≡ d = same_Some c d (sym now ∙ ap color' (sym s) ∙ h) in
                (ap color' to ∙ kept (head c) (apart (head c) c k.0) ∙ k.0 ∙ ap Some same, ap prev' to ∙ put.back hc ∙ sym s)
            | inr ns ↦
                let hy : color y ≡ Some d = sym (kept y ns) ∙ h in
                let to : next' y ≡ next y = put.nexts y (real y d hy) ns in
                let ny : next y ≢ nil = λ z. ne (to ∙ z) in
                let a = l.after y d hy ny in
                let nx = apart (next y) d a.0 in
                let nh : next y ≢ head c = λ z. real y d hy (sym a.1 ∙ ap prev z ∙ (l.heads c (λ q. ny (z ∙ q))).1) in
                (ap color' to ∙ kept (next y) nx ∙ a.0, ap prev' to ∙ put.prevs (next y) ny nx nh ∙ a.1)
          ]

      put_heads : (d : ℕ) → head' d ≢ nil → (color' (head' d) ≡ Some d) × (prev' (head' d) ≡ nil)
      put_heads d ne =
          elim (cases_eq d c) [
            | inl same ↦
                let to : head' d ≡ x = ap head' same ∙ put.head_here in
                (ap color' to ∙ now ∙ ap Some (sym same), ap prev' to ∙ put.prev_here)
            | inr nd ↦
                let to : head' d ≡ head d = put.heads d nd in
                let hd : head d ≢ nil = λ z. ne (to ∙ z) in
                let k = l.heads d hd in
                let hx = apart (head d) d k.0 in
                let hh : head d ≢ head c = λ z. nd (one (head d) d c k.0 (ap color z ∙ (l.heads c (λ q. hd (z ∙ q))).0)) in
                (ap color' to ∙ kept (head d) hx ∙ k.0, ap prev' to ∙ put.prevs (head d) hd hx hh ∙ k.1)
          ]

      pub put_linked : Linked next' prev' head' color' nil
      put_linked = record { rank = rank'; below = put_below; first = put_first; before = put_before; after = put_after; heads = put_heads }

-- the same links, otherwise kept
module _ (next prev head next' prev' head' : ℕ → ℕ) (color color' : ℕ → Option ℕ) (nil : ℕ) where
  pub relink : Linked next prev head color nil → ((y : ℕ) → next' y ≡ next y) → ((y : ℕ) → prev' y ≡ prev y) → ((y : ℕ) → head' y ≡ head y)
      → ((y : ℕ) → color' y ≡ color y) → Linked next' prev' head' color' nil
  relink l en ep eh ec = record {
    rank = l.rank;
    below = λ x c h. l.below x c (sym (ec x) ∙ h);
    first = λ x c h e. eh c ∙ l.first x c (sym (ec x) ∙ h) (sym (ep x) ∙ e);
    before = λ x c h ne.
        let b = l.before x c (sym (ec x) ∙ h) (λ z. ne (ep x ∙ z)) in
        let r : l.rank (prev' x) ≡ l.rank (prev x) = ap l.rank (ep x) in
        (ap color' (ep x) ∙ ec (prev x) ∙ b.0, ap next' (ep x) ∙ en (prev x) ∙ b.1, omega (arith, r, b.2));
    after = λ x c h ne.
        let a = l.after x c (sym (ec x) ∙ h) (λ z. ne (en x ∙ z)) in
        (ap color' (en x) ∙ ec (next x) ∙ a.0, ap prev' (en x) ∙ ep (next x) ∙ a.1);
    heads = λ c ne.
        let k = l.heads c (λ z. ne (eh c ∙ z)) in
        (ap color' (eh c) ∙ ec (head c) ∙ k.0, ap prev' (eh c) ∙ ep (head c) ∙ k.1);
  }
