-- The index of letters, one letter after the other.
use Rattle.std.proofs.Common.{◌≡◌, ◌≢◌, ℕ, suc, zero, ◌+◌, ◌-◌, ◌<◌, ◌≤◌, Bool, true, false, cond, ◌==◌, ◌⊎◌, inl, inr, List, [], ◌∷◌, ◌++◌}
use Rattle.std.proofs.Common.{refl, sym, ap, arith, ◌∙◌, subst, length, get_or, take, drop, Option, Some, None, slice_get}
use Rattle.std.proofs.lemmas.Bool.Decides.{nat_tests}
use Rattle.std.proofs.lemmas.List.{append-nil, take_rest, take-append-le, drop-append-le, drop_at, length_push, length-drop, length-take-le}
use Rattle.std.proofs.lemmas.List.{get_or_append_left, get_or_push, get_or-take, get_or_default, get_or_past, take_more}
use Rattle.std.proofs.lemmas.List.Elements.{filter-append}
use Rattle.std.proofs.lemmas.Option.{get_or_from_slice_get, slice_get_within, slice_get_cases}
use Rattle.std.specs.List.{filter}
use Rattle.std.specs.List.Sorted.{IsNonDecreasingBy}
use Rattle.std.specs.Option.{option_map_or}
use Rattle.sim_base.specs.declared.ids.ActorId.{ActorId}
use Rattle.actor_trait.specs.InboxOrder.{is_to}
use Rattle.actor_trait.specs.declared.letter.Letter.{Letter}
use Rattle.inbox_order.specs.Index.{IsIndex, IsRun, end_of, is_last}

-- one more, unless it is known
abbrev push_unless : {X : Type 0} → Bool → List X → X → List X
push_unless known xs x = cond known xs (xs ++ x ∷ [])

got_front : {X : Type 0} (xs : List X) (y : X) (i : ℕ) (x : X) → slice_get xs i ≡ Some x → slice_get (xs ++ y ∷ []) i ≡ Some x
got_front [] y i x e = absurd (cc)
got_front (z ∷ zs) y zero x e = e
got_front (z ∷ zs) y (suc i) x e = got_front zs y i x e

got_new : {X : Type 0} (xs : List X) (y : X) → slice_get (xs ++ y ∷ []) (length xs) ≡ Some y
got_new [] y = refl
got_new (z ∷ zs) y = got_new zs y

got_back : {X : Type 0} (xs : List X) (y : X) (i : ℕ) (x : X) → slice_get (xs ++ y ∷ []) i ≡ Some x → (slice_get xs i ≡ Some x) ⊎ ((i ≡ length xs) × (y ≡ x))
got_back [] y zero x e = inr (refl, cc)
got_back [] y (suc i) x e = absurd (cc)
got_back (z ∷ zs) y zero x e = inl e
got_back {X} (z ∷ zs) y (suc i) x e = deeper (got_back zs y i x e)
  where
    deeper : (slice_get zs i ≡ Some x) ⊎ ((i ≡ length zs) × (y ≡ x)) → (slice_get zs i ≡ Some x) ⊎ ((suc i ≡ suc (length zs)) × (y ≡ x))
    deeper (inl h) = inl h
    deeper (inr h) = inr (ap suc h.0, h.1)

filter_one : (r : ActorId) (ls : List Letter) (l : Letter) → is_to r l ≡ false → filter (is_to r) (ls ++ l ∷ []) ≡ filter (is_to r) ls
filter_one r ls l e = filter-append (is_to r) ls (l ∷ []) ∙ rw e (append-nil (filter (is_to r) ls))

filter_more_one : (r : ActorId) (ls : List Letter) (l : Letter) → is_to r l ≡ true → filter (is_to r) (ls ++ l ∷ []) ≡ filter (is_to r) ls ++ l ∷ []
filter_more_one r ls l e = filter-append (is_to r) ls (l ∷ []) ∙ rw e

-- a letter to another leaves a run as it is
run_kept : (ls : List Letter) (l : Letter) (s e : ℕ) (r : ActorId) → is_to r l ≡ false → IsRun ls s e r → IsRun (ls ++ l ∷ []) s e r
run_kept ls l s e r other h =
    let some : s < e = h.some in
    let within : e ≤ length ls = h.within in
    let long : length (ls ++ l ∷ []) ≡ length ls + 1 = length_push ls l in
    let cut : drop s (ls ++ l ∷ []) ≡ drop s ls ++ l ∷ [] = drop-append-le s ls (l ∷ []) (omega arith) in
    let short : take (e - s) (drop s ls ++ l ∷ []) ≡ take (e - s) (drop s ls) = take-append-le (e - s) (drop s ls) (l ∷ []) (rw (length-drop s ls) (omega arith)) in
    record {
      some = some;
      within = omega arith;
      first = λ d. ap (λ (x : Letter). x.to.0) (get_or_append_left ls (l ∷ []) d s (omega arith)) ∙ h.first d;
      all = ap (take (e - s)) cut ∙ short ∙ h.all ∙ sym (filter_one r ls l other);
    }

-- a letter to the last recipient makes its run longer
run_longer : (ls : List Letter) (l : Letter) (s : ℕ) (r : ActorId) → is_to r l ≡ true → IsRun ls s (length ls) r → IsRun (ls ++ l ∷ []) s (length (ls ++ l ∷ [])) r
run_longer ls l s r same h =
    let some : s < length ls = h.some in
    let long : length (ls ++ l ∷ []) ≡ length ls + 1 = length_push ls l in
    let cut : drop s (ls ++ l ∷ []) ≡ drop s ls ++ l ∷ [] = drop-append-le s ls (l ∷ []) (omega arith) in
    let before : drop s ls ≡ filter (is_to r) ls = sym (take_rest ls s) ∙ h.all in
    record {
      some = omega arith;
      within = omega arith;
      first = λ d. ap (λ (x : Letter). x.to.0) (get_or_append_left ls (l ∷ []) d s (omega arith)) ∙ h.first d;
      all = take_rest (ls ++ l ∷ []) s ∙ cut ∙ ap (λ (x : List Letter). x ++ l ∷ []) before ∙ sym (filter_more_one r ls l same);
    }

-- the first letter to a new recipient
run_new : (ls : List Letter) (l : Letter) → filter (is_to l.to) ls ≡ [] → is_to l.to l ≡ true → IsRun (ls ++ l ∷ []) (length ls) (length (ls ++ l ∷ [])) l.to
run_new ls l none same =
    let long : length (ls ++ l ∷ []) ≡ length ls + 1 = length_push ls l in
    record {
      some = omega arith;
      within = omega arith;
      first = λ d. ap (λ (x : Letter). x.to.0) (get_or_push ls l d (length ls) refl);
      all = take_rest (ls ++ l ∷ []) (length ls) ∙ drop_at ls (l ∷ []) (length ls) refl ∙ sym (filter_more_one l.to ls l same ∙ ap (λ (x : List Letter). x ++ l ∷ []) none);
    }

itself : (l : Letter) → is_to l.to l ≡ true
itself l = grind (arith, nat_tests)

not_to : (r : ActorId) (l : Letter) → r.0 ≢ l.to.0 → is_to r l ≡ false
not_to r l h = grind (arith, nat_tests)

end_within : (ls : List Letter) (ss : List ℕ) (i e : ℕ) → slice_get ss (i + 1) ≡ Some e → end_of ls ss i ≡ e
end_within ls ss i e h = get_or_from_slice_get ss (i + 1) e (length ls) h

end_past : (ls : List Letter) (ss : List ℕ) (i : ℕ) → length ss ≤ i + 1 → end_of ls ss i ≡ length ls
end_past ls ss i h = get_or_past ss (i + 1) (length ls) h

last_of : (o : Option ActorId) (to : ActorId) → option_map_or (λ r. r.0 == to.0) o false ≡ true → (r : ActorId) × (o ≡ Some r) × (r.0 ≡ to.0)
last_of None to e = absurd (cc)
last_of (Some r) to e = (r, refl, grind (arith, nat_tests))

not_last : (o : Option ActorId) (r to : ActorId) → option_map_or (λ r. r.0 == to.0) o false ≡ false → o ≡ Some r → r.0 ≢ to.0
not_last None r to e h = absurd (cc)
not_last (Some q) r to e h = let same : q ≡ r = cc in subst (λ (x : ActorId). x.0 ≢ to.0) same (grind (arith, nat_tests))

-- one more to the last recipient
more_same : (ls : List Letter) (rs : List ActorId) (ss : List ℕ) (l : Letter) (q : ActorId) → IsIndex ls rs ss
    → slice_get rs (length rs - 1) ≡ Some q → q.0 ≡ l.to.0 → IsIndex (ls ++ l ∷ []) rs ss
more_same ls rs ss l q h last same = record {
  many = h.many;
  rising = h.rising;
  runs = λ i s r e f. run i s r e f (slice_get_cases ss (i + 1)).1;
  others = λ a absent. let known : q.0 ≢ a.0 = absent (length rs - 1) q last in filter_one a ls l (grind (arith, nat_tests)) ∙ h.others a absent;
}
  where
    run : (i s : ℕ) (r : ActorId) → slice_get rs i ≡ Some r → slice_get ss i ≡ Some s
        → ((x : ℕ) × (i + 1 < length ss) × (slice_get ss (i + 1) ≡ Some x) × (get_or ss (i + 1) x ≡ x)) ⊎ ((length ss ≤ i + 1) × (slice_get ss (i + 1) ≡ None))
        → IsRun (ls ++ l ∷ []) s (end_of (ls ++ l ∷ []) ss i) r
    run i s r e f (inl w) =
        let many : length ss ≡ length rs = h.many in
        let below : i + 1 < length ss = w.1 in
        let less : r.0 < q.0 = h.rising i (length rs - 1) r q (omega arith) e last in
        let here : IsRun ls s w.0 r = subst (λ (x : ℕ). IsRun ls s x r) (end_within ls ss i w.0 w.2) (h.runs i s r e f) in
        rw (end_within (ls ++ l ∷ []) ss i w.0 w.2) (run_kept ls l s w.0 r (not_to r l (λ k. absurd (omega arith))) here)
    run i s r e f (inr w) =
        let many : length ss ≡ length rs = h.many in
        let within : i < length rs = slice_get_within rs i r e in
        let at_end : length ss ≤ i + 1 = w.0 in
        let place : i ≡ length rs - 1 = omega arith in
        let one : Some r ≡ Some q = sym e ∙ ap (λ (k : ℕ). slice_get rs k) place ∙ last in
        let equal : r ≡ q = cc in
        let told : is_to r l ≡ true = rw equal (grind (arith, nat_tests)) in
        let here : IsRun ls s (length ls) r = subst (λ (x : ℕ). IsRun ls s x r) (end_past ls ss i w.0) (h.runs i s r e f) in
        rw (end_past (ls ++ l ∷ []) ss i w.0) (run_longer ls l s r told here)

-- one to a new recipient
more_new : (ls : List Letter) (rs : List ActorId) (ss : List ℕ) (l : Letter) → IsIndex ls rs ss
    → ((i : ℕ) (r : ActorId) → slice_get rs i ≡ Some r → r.0 < l.to.0) → IsIndex (ls ++ l ∷ []) (rs ++ l.to ∷ []) (ss ++ length ls ∷ [])
more_new ls rs ss l h above = record {
  many = let many : length ss ≡ length rs = h.many in rw (length_push ss (length ls), length_push rs l.to) (omega arith);
  rising = λ i j r q b e f. rises i j r q b (got_back rs l.to i r e) (got_back rs l.to j q f);
  runs = λ i s r e f. run i s r (got_back rs l.to i r e) (got_back ss (length ls) i s f);
  others = λ a absent.
      let old : filter (is_to a) ls ≡ [] = h.others a (λ i r e. absent i r (got_front rs l.to i r e)) in
      let new : l.to.0 ≢ a.0 = absent (length rs) l.to (got_new rs l.to) in
      filter_one a ls l (grind (arith, nat_tests)) ∙ old;
}
  where
    rises : (i j : ℕ) (r q : ActorId) → i < j → (slice_get rs i ≡ Some r) ⊎ ((i ≡ length rs) × (l.to ≡ r)) → (slice_get rs j ≡ Some q) ⊎ ((j ≡ length rs) × (l.to ≡ q)) → r.0 < q.0
    rises i j r q b (inl e) (inl f) = h.rising i j r q b e f
    rises i j r q b (inl e) (inr f) = subst (λ (x : ActorId). r.0 < x.0) f.1 (above i r e)
    rises i j r q b (inr e) (inl f) = let w : j < length rs = slice_get_within rs j q f in let v : i ≡ length rs = e.0 in absurd (omega arith)
    rises i j r q b (inr e) (inr f) = let w : j ≡ length rs = f.0 in let v : i ≡ length rs = e.0 in absurd (omega arith)

    ends : (i s : ℕ) → slice_get ss i ≡ Some s
        → ((x : ℕ) × (i + 1 < length ss) × (slice_get ss (i + 1) ≡ Some x) × (get_or ss (i + 1) x ≡ x)) ⊎ ((length ss ≤ i + 1) × (slice_get ss (i + 1) ≡ None))
        → end_of (ls ++ l ∷ []) (ss ++ length ls ∷ []) i ≡ end_of ls ss i
    ends i s f (inl w) = end_within (ls ++ l ∷ []) (ss ++ length ls ∷ []) i w.0 (got_front ss (length ls) (i + 1) w.0 w.2) ∙ sym (end_within ls ss i w.0 w.2)
    ends i s f (inr w) =
        let within : i < length ss = slice_get_within ss i s f in
        let at_end : length ss ≤ i + 1 = w.0 in
        let place : i + 1 ≡ length ss = omega arith in
        end_within (ls ++ l ∷ []) (ss ++ length ls ∷ []) i (length ls) (ap (λ (k : ℕ). slice_get (ss ++ length ls ∷ []) k) place ∙ got_new ss (length ls)) ∙ sym (end_past ls ss i w.0)

    run : (i s : ℕ) (r : ActorId) → (slice_get rs i ≡ Some r) ⊎ ((i ≡ length rs) × (l.to ≡ r)) → (slice_get ss i ≡ Some s) ⊎ ((i ≡ length ss) × (length ls ≡ s))
        → IsRun (ls ++ l ∷ []) s (end_of (ls ++ l ∷ []) (ss ++ length ls ∷ []) i) r
    run i s r (inl e) (inl f) =
        let less : r.0 < l.to.0 = above i r e in
        rw (ends i s f (slice_get_cases ss (i + 1)).1) (run_kept ls l s (end_of ls ss i) r (not_to r l (λ k. absurd (omega arith))) (h.runs i s r e f))
    run i s r (inl e) (inr f) = let w : i < length rs = slice_get_within rs i r e in let v : i ≡ length ss = f.0 in let many : length ss ≡ length rs = h.many in absurd (omega arith)
    run i s r (inr e) (inl f) = let w : i < length ss = slice_get_within ss i s f in let v : i ≡ length rs = e.0 in let many : length ss ≡ length rs = h.many in absurd (omega arith)
    run i s r (inr e) (inr f) =
        let v : i ≡ length ss = f.0 in
        let long : length (ss ++ length ls ∷ []) ≡ length ss + 1 = length_push ss (length ls) in
        let none : filter (is_to l.to) ls ≡ [] = h.others l.to (λ j q g k. let less : q.0 < l.to.0 = above j q g in absurd (omega arith)) in
        let new = run_new ls l none (itself l) in
        rw (end_past (ls ++ l ∷ []) (ss ++ length ls ∷ []) i (omega arith))
        (subst (λ (x : ActorId). IsRun (ls ++ l ∷ []) s (length (ls ++ l ∷ [])) x) e.1
        (subst (λ (x : ℕ). IsRun (ls ++ l ∷ []) x (length (ls ++ l ∷ [])) l.to) f.1 new))

pub index_none : IsIndex [] [] []
index_none = record {
  many = refl;
  rising = λ i j r q b e f. absurd (cc);
  runs = λ i s r e f. absurd (cc);
  others = λ a absent. refl;
}

-- one letter more
index_more : (ls : List Letter) (rs : List ActorId) (ss : List ℕ) (l : Letter) → IsIndex ls rs ss
    → ((i : ℕ) (r : ActorId) → slice_get rs i ≡ Some r → r.0 ≤ l.to.0)
    → IsIndex (ls ++ l ∷ []) (push_unless (is_last rs l.to) rs l.to) (push_unless (is_last rs l.to) ss (length ls))
index_more ls rs ss l h above = by (is_last rs l.to) refl
  where
    less : (i : ℕ) (r q : ActorId) → slice_get rs i ≡ Some r → slice_get rs (length rs - 1) ≡ Some q → q.0 < l.to.0 → (b : Bool) → (i == (length rs - 1)) ≡ b → r.0 < l.to.0
    less i r q e f most true k =
        let place : i ≡ length rs - 1 = grind (arith, nat_tests) in
        let one : Some r ≡ Some q = sym e ∙ ap (λ (j : ℕ). slice_get rs j) place ∙ f in
        let same : r ≡ q = cc in
        rw same most
    less i r q e f most false k =
        let within : i < length rs = slice_get_within rs i r e in
        let other : i ≢ length rs - 1 = grind (arith, nat_tests) in
        let lower : r.0 < q.0 = h.rising i (length rs - 1) r q (omega arith) e f in
        omega arith

    lower : is_last rs l.to ≡ false → (i : ℕ) (r : ActorId) → slice_get rs i ≡ Some r
        → ((x : ActorId) × (length rs - 1 < length rs) × (slice_get rs (length rs - 1) ≡ Some x) × (get_or rs (length rs - 1) x ≡ x)) ⊎ ((length rs ≤ length rs - 1) × (slice_get rs (length rs - 1) ≡ None))
        → r.0 < l.to.0
    lower n i r e (inl w) =
        let most : w.0.0 ≤ l.to.0 = above (length rs - 1) w.0 w.2 in
        let unlike : w.0.0 ≢ l.to.0 = not_last (slice_get rs (length rs - 1)) w.0 l.to n w.2 in
        less i r w.0 e w.2 (omega arith) (i == (length rs - 1)) refl
    lower n i r e (inr w) = let within : i < length rs = slice_get_within rs i r e in absurd (omega (arith, w.0))

    by : (b : Bool) → is_last rs l.to ≡ b → IsIndex (ls ++ l ∷ []) (push_unless b rs l.to) (push_unless b ss (length ls))
    by true e = let w = last_of (slice_get rs (length rs - 1)) l.to e in more_same ls rs ss l w.0 h w.1 w.2
    by false e = more_new ls rs ss l h (λ i r g. lower e i r g (slice_get_cases rs (length rs - 1)).1)

-- the front of letters that stand by recipient, one letter longer
index_step : (ls : List Letter) (rs : List ActorId) (ss : List ℕ) (at : ℕ) (x : Letter) → IsNonDecreasingBy (λ l. l.to.0) ls → at < length ls → x ≡ get_or ls at x
    → IsIndex (take at ls) rs ss → IsIndex (take (at + 1) ls) (push_unless (is_last rs x.to) rs x.to) (push_unless (is_last rs x.to) ss at)
index_step ls rs ss at x up within is h =
    let long : length (take at ls) ≡ at = length-take-le at ls (omega arith) in
    let front : take (at + 1) ls ≡ take at ls ++ x ∷ [] = take_more ls at x within ∙ ap (λ (y : Letter). take at ls ++ y ∷ []) (sym is) in
    let more = index_more (take at ls) rs ss x h (λ i r e. above i r e (slice_get_cases ss i).1) in
    rw front (subst (λ (n : ℕ). IsIndex (take at ls ++ x ∷ []) (push_unless (is_last rs x.to) rs x.to) (push_unless (is_last rs x.to) ss n)) long more)
  where
    above : (i : ℕ) (r : ActorId) → slice_get rs i ≡ Some r
        → ((s : ℕ) × (i < length ss) × (slice_get ss i ≡ Some s) × (get_or ss i s ≡ s)) ⊎ ((length ss ≤ i) × (slice_get ss i ≡ None)) → r.0 ≤ x.to.0
    above i r e (inl w) =
        let run : IsRun (take at ls) w.0 (end_of (take at ls) ss i) r = h.runs i w.0 r e w.2 in
        let low : w.0 < end_of (take at ls) ss i = run.some in
        let high : end_of (take at ls) ss i ≤ length (take at ls) = run.within in
        let long : length (take at ls) ≡ at = length-take-le at ls (omega arith) in
        let first : (get_or ls w.0 x).to.0 ≡ r.0 = ap (λ (y : Letter). y.to.0) (sym (get_or-take at ls w.0 x (omega arith))) ∙ run.first x in
        let order : (get_or ls w.0 x).to.0 ≤ (get_or ls at x).to.0 = up w.0 at x (omega arith) within in
        let last : x.to.0 ≡ (get_or ls at x).to.0 = ap (λ (y : Letter). y.to.0) is in
        omega arith
    above i r e (inr w) =
        let many : length ss ≡ length rs = h.many in
        let here : i < length rs = slice_get_within rs i r e in
        absurd (omega (arith, w.0))

pub index_known : (ls : List Letter) (rs : List ActorId) (ss : List ℕ) (at : ℕ) (d : Letter) → IsNonDecreasingBy (λ l. l.to.0) ls → at < length ls → IsIndex (take at ls) rs ss
    → is_last rs (get_or ls at d).to ≡ true → IsIndex (take (at + 1) ls) rs ss
index_known ls rs ss at d up within h last =
    let more = index_step ls rs ss at (get_or ls at d) up within (get_or_default ls at d (get_or ls at d) within) h in
    subst (λ (b : Bool). IsIndex (take (at + 1) ls) (push_unless b rs (get_or ls at d).to) (push_unless b ss at)) last more

pub index_new : (ls : List Letter) (rs : List ActorId) (ss : List ℕ) (at : ℕ) (d : Letter) → IsNonDecreasingBy (λ l. l.to.0) ls → at < length ls → IsIndex (take at ls) rs ss
    → is_last rs (get_or ls at d).to ≡ false → IsIndex (take (at + 1) ls) (rs ++ (get_or ls at d).to ∷ []) (ss ++ at ∷ [])
index_new ls rs ss at d up within h other =
    let more = index_step ls rs ss at (get_or ls at d) up within (get_or_default ls at d (get_or ls at d) within) h in
    subst (λ (b : Bool). IsIndex (take (at + 1) ls) (push_unless b rs (get_or ls at d).to) (push_unless b ss at)) other more
