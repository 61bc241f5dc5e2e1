-- A selection with one actor more.
use Rattle.std.proofs.Common.{◌≡◌, ℕ, zero, suc, ◌+◌, ◌<◌, ◌≤◌, Bool, true, false, cond, nat_lt, List, [], ◌∷◌, ◌++◌, length, get_or, slice_index_or, take, refl, sym, ap, ◌∙◌, subst, arith}
use Rattle.std.specs.List.{All}
use Rattle.std.proofs.lemmas.Bool.Decides.{nat_tests}
use Rattle.std.proofs.lemmas.List.{get_or-append-add, get_or-map, get_or_append_left, get_or_past, get_or_push, length-append, length-map, length-take-le, length_push, take_more}
use Rattle.std.proofs.lemmas.List.Elements.{All-cons, All-nil, All-push, All-weaker}
use Rattle.actor_trait.specs.Meaning.{Meaning}
use Rattle.sim_model.specs.Cast.{member, members_from}
use Rattle.sim_model.specs.declared.cast.Member.{Member}
use Rattle.sim_model.specs.declared.setup.Start.{Start}
use Rattle.result_store.specs.Patterns.{series_name}
use Rattle.result_store.specs.RuleParts.{RuleParts}
use Rattle.result_store.specs.Rules.{keeps}
use Rattle.selection.specs.Selecting.{Selects, flags_of, keeps_probe, probes_of}
use Rattle.selection.specs.declared.selection.Span.{Span}
use Rattle.selection.specs.SelectionParts.{AreWithin, SelectionParts, flag_of, may_show, span_of}

abbrev none : Span
none = record { start = 0; len = 0 }

-- ---- one flag

flag_past : (flags : List Bool) (span : Span) (n : ℕ) → span.len ≤ n → flag_of flags span n ≡ true
flag_past flags span n past = told (nat_lt n span.len) refl
  where
    told : (b : Bool) → nat_lt n span.len ≡ b → cond b (slice_index_or flags (span.start + n) true) true ≡ true
    told true e = absurd (grind (arith, nat_tests, e, past))
    told false e = refl

flag_at : (flags : List Bool) (span : Span) (n : ℕ) → n < span.len → flag_of flags span n ≡ slice_index_or flags (span.start + n) true
flag_at flags span n within = told (nat_lt n span.len) refl
  where
    told : (b : Bool) → nat_lt n span.len ≡ b → cond b (slice_index_or flags (span.start + n) true) true ≡ slice_index_or flags (span.start + n) true
    told true e = refl
    told false e = absurd (grind (arith, nat_tests, e, within))

flag_kept : (flags more : List Bool) (span : Span) (n : ℕ) → span.start + span.len ≤ length flags → flag_of (flags ++ more) span n ≡ flag_of flags span n
flag_kept flags more span n within = told (nat_lt n span.len) refl
  where
    told : (b : Bool) → nat_lt n span.len ≡ b
        → cond b (slice_index_or (flags ++ more) (span.start + n) true) true ≡ cond b (slice_index_or flags (span.start + n) true) true
    told true e =
        let less : n < span.len = grind (arith, nat_tests, e) in
        get_or_append_left flags more true (span.start + n) (omega (arith, less, within))
    told false e = refl

-- the flags of the actor that was added
flag_new : (rules : List RuleParts) (flags : List Bool) (span : Span) (name : List ℕ) (probes : List (List ℕ)) (n : ℕ)
    → span.start ≡ length flags → span.len ≡ length probes → n < length probes
    → flag_of (flags ++ flags_of rules name probes) span n ≡ keeps_probe rules name probes n
flag_new rules flags span name probes n start len less =
    let more = flags_of rules name probes in
    flag_at (flags ++ more) span n (omega (arith, len, less)) ∙ ap (λ k. slice_index_or (flags ++ more) (k + n) true) start
    ∙ get_or-append-add flags more n true
    ∙ get_or-map (λ probe. keeps rules (series_name name probe)) probes n [] true less

-- ---- the flags of all

-- a selection, and the flags of one actor more
abbrev extended : SelectionParts → Span → List Bool → SelectionParts
extended s span more = record { spans = s.spans ++ span ∷ []; flags = s.flags ++ more }

shown_before : (s : SelectionParts) (span : Span) (more : List Bool) (id n : ℕ) → AreWithin s.spans (length s.flags) → id < length s.spans
    → may_show (extended s span more) (record { 0 = id }) n ≡ may_show s (record { 0 = id }) n
shown_before s span more id n within less =
    ap (λ x. flag_of (s.flags ++ more) x n) (get_or_append_left s.spans (span ∷ []) none id less) ∙ flag_kept s.flags more (span_of s.spans id) n (within id)

shown_past : (s : SelectionParts) (id n : ℕ) → length s.spans ≤ id → may_show s (record { 0 = id }) n ≡ true
shown_past s id n past =
    let nothing : span_of s.spans id ≡ none = get_or_past s.spans id none past in
    flag_past s.flags (span_of s.spans id) n (omega (arith, ap (λ (x : Span). x.len) nothing))

within_more : (spans : List Span) (span : Span) (count total : ℕ) → AreWithin spans count → count ≤ total → span.start + span.len ≤ total
    → (id : ℕ) → (span_of (spans ++ span ∷ []) id).start + (span_of (spans ++ span ∷ []) id).len ≤ total
within_more [] span count total h le fits zero = fits
within_more [] span count total h le fits (suc id) = omega arith
within_more (x ∷ spans) span count total h le fits zero = omega (arith, h 0, le)
within_more (x ∷ spans) span count total h le fits (suc id) = within_more spans span count total (λ id. h (suc id)) le fits id

pub first_span : (empty spans : List Span) → empty ≡ [] → spans ≡ empty ++ record { start = 0; len = 0 } ∷ [] → spans ≡ record { start = 0; len = 0 } ∷ []
first_span empty spans e f = f ∙ ap (λ xs. xs ++ none ∷ []) e

pub spans-length : (spans more : List Span) (span : Span) (count : ℕ) → more ≡ spans ++ span ∷ [] → length spans ≡ count → length more ≡ count + 1
spans-length spans more span count e long = ap length e ∙ length_push spans span ∙ ap (λ n. n + 1) long

pub flags-length : (rules : List RuleParts) (flags more : List Bool) (name : List ℕ) (probes : List (List ℕ)) → more ≡ flags ++ flags_of rules name probes
    → length more ≡ length flags + length probes
flags-length rules flags more name probes e =
    ap length e ∙ length-append flags (flags_of rules name probes)
    ∙ ap (λ n. length flags + n) (length-map probes (λ probe. keeps rules (series_name name probe)))

pub within_none : (spans : List Span) (count : ℕ) → spans ≡ record { start = 0; len = 0 } ∷ [] → AreWithin spans count
within_none spans count e = subst (λ xs. AreWithin xs count) (sym e) (within_more [] none 0 count (λ id. omega arith) (omega arith) (omega arith))

pub within_on : (spans more : List Span) (span : Span) (count total : ℕ) → AreWithin spans count → count ≤ total → span.start + span.len ≤ total
    → more ≡ spans ++ span ∷ [] → AreWithin more total
within_on spans more span count total h le fits e = subst (λ xs. AreWithin xs total) (sym e) (within_more spans span count total h le fits)

select_more : (rules : List RuleParts) (members : List Member) (c : Member) (s : SelectionParts) (span : Span) → length s.spans ≡ length members + 1
    → c.id.0 ≡ length members + 1 → All (λ d. d.id.0 < length members + 1) members → AreWithin s.spans (length s.flags)
    → span.start ≡ length s.flags → span.len ≡ length (probes_of c) → Selects rules members s
    → Selects rules (members ++ c ∷ []) (extended s span (flags_of rules c.name (probes_of c)))
select_more rules members c s span long number below within start len h = record { known = All-push Known members c older newest; nobody = nobody; later = later }
  where
    more : List Bool
    more = flags_of rules c.name (probes_of c)

    Known : Member → Type 0
    Known d = (n : ℕ) → n < length (probes_of d) → may_show (extended s span more) d.id n ≡ keeps_probe rules d.name (probes_of d) n

    older : All Known members
    older k d lt n less =
        shown_before s span more (get_or members k d).id.0 n within (omega (arith, below k d lt, long)) ∙ h.known k d lt n less

    newest : Known c
    newest n less =
        let place : span_of (s.spans ++ span ∷ []) c.id.0 ≡ span = get_or_push s.spans span none c.id.0 (omega (arith, long, number)) in
        ap (λ x. flag_of (s.flags ++ more) x n) place ∙ flag_new rules s.flags span c.name (probes_of c) n start len less

    nobody : (n : ℕ) → may_show (extended s span more) (record { 0 = 0 }) n ≡ true
    nobody n = shown_before s span more 0 n within (omega (arith, long)) ∙ h.nobody n

    later : (id n : ℕ) → length (members ++ c ∷ []) < id → may_show (extended s span more) (record { 0 = id }) n ≡ true
    later id n beyond = shown_past (extended s span more) id n (omega (arith, beyond, long, length_push members c, length_push s.spans span))

pub select_none : (rules : List RuleParts) (s : SelectionParts) → s.spans ≡ record { start = 0; len = 0 } ∷ [] → Selects rules [] s
select_none rules s e = record {
  known = All-nil Known;
  nobody = λ n. flag_past s.flags (span_of s.spans 0) n (omega (arith, ap (λ xs. (span_of xs 0).len) e));
  later = λ id n beyond. shown_past s id n (omega (arith, beyond, ap (λ xs. length xs) e));
}
  where
    Known : Member → Type 0
    Known c = (n : ℕ) → n < length (probes_of c) → may_show s c.id n ≡ keeps_probe rules c.name (probes_of c) n

-- ---- the initial actors

pub members-length : {A : Type 0} (m : Meaning A) (starts : List (Start A)) (n : ℕ) → length (members_from m n starts) ≡ length starts
members-length m [] n = refl
members-length m (start ∷ starts) n = ap (λ k. suc k) (members-length m starts (n + 1))

members-below : {A : Type 0} (m : Meaning A) (starts : List (Start A)) (n : ℕ) → All (λ c. c.id.0 < n + length starts) (members_from m n starts)
members-below m [] n = All-nil (λ c. c.id.0 < n + 0)
members-below m (start ∷ starts) n =
    All-cons (λ c. c.id.0 < n + suc (length starts)) (member m (record { 0 = n }) start) (members_from m (n + 1) starts) (omega arith)
    (All-weaker (λ c. c.id.0 < n + 1 + length starts) (λ c. c.id.0 < n + suc (length starts)) (λ c lt. omega (arith, lt)) (members_from m (n + 1) starts) (members-below m starts (n + 1)))

members-push : {A : Type 0} (m : Meaning A) (starts : List (Start A)) (start : Start A) (n k : ℕ) → k ≡ n + length starts
    → members_from m n (starts ++ start ∷ []) ≡ members_from m n starts ++ member m (record { 0 = k }) start ∷ []
members-push m [] start n k e = let same : n ≡ k = omega (arith, e) in ap (λ i. member m (record { 0 = i }) start ∷ []) same
members-push m (x ∷ starts) start n k e = ap (λ c. member m (record { 0 = n }) x ∷ c) (members-push m starts start (n + 1) k (omega (arith, e)))

select_next : {A : Type 0} (m : Meaning A) (rules : List RuleParts) (starts : List (Start A)) (start : Start A) (s : SelectionParts) (span : Span)
    → length s.spans ≡ length starts + 1 → AreWithin s.spans (length s.flags)
    → span.start ≡ length s.flags → span.len ≡ length (m.probes start.state) → Selects rules (members_from m 1 starts) s
    → Selects rules (members_from m 1 (starts ++ start ∷ []))
    (record { spans = s.spans ++ span ∷ []; flags = s.flags ++ flags_of rules start.name (m.probes start.state) })
select_next m rules starts start s span long within begins len h =
    let members = members_from m 1 starts in
    let count : length members ≡ length starts = members-length m starts 1 in
    let all = members-push m starts start 1 (length starts + 1) (omega arith) in
    let below = All-weaker (λ c. c.id.0 < 1 + length starts) (λ c. c.id.0 < length members + 1) (λ c lt. omega (arith, lt, count)) members (members-below m starts 1) in
    subst (λ cast. Selects rules cast (record { spans = s.spans ++ span ∷ []; flags = s.flags ++ flags_of rules start.name (m.probes start.state) })) (sym all)
    (select_more rules members (member m (record { 0 = length starts + 1 }) start) s span (omega (arith, long, count)) (omega (arith, count)) below within begins len h)

-- one more of the initial actors
pub select_on : {A : Type 0} (m : Meaning A) (rules : List RuleParts) (starts : List (Start A)) (i : ℕ) (start : Start A)
    → (spans more_spans : List Span) (flags more_flags : List Bool) (span : Span) → i < length starts → start ≡ get_or starts i start
    → length spans ≡ i + 1 → AreWithin spans (length flags) → span.start ≡ length flags → span.len ≡ length (m.probes start.state)
    → more_spans ≡ spans ++ span ∷ [] → more_flags ≡ flags ++ flags_of rules start.name (m.probes start.state)
    → Selects rules (members_from m 1 (take i starts)) (record { spans = spans; flags = flags })
    → Selects rules (members_from m 1 (take (i + 1) starts)) (record { spans = more_spans; flags = more_flags })
select_on m rules starts i start spans more_spans flags more_flags span less is long within begins len e f h =
    let front = take i starts in
    let count : length front ≡ i = length-take-le i starts (omega (arith, less)) in
    let whole : take (i + 1) starts ≡ front ++ start ∷ [] = take_more starts i start less ∙ ap (λ x. front ++ x ∷ []) (sym is) in
    let next = select_next m rules front start (record { spans = spans; flags = flags }) span (omega (arith, long, count)) within begins len h in
    subst (λ xs. Selects rules (members_from m 1 xs) (record { spans = more_spans; flags = more_flags })) (sym whole)
    (subst (λ xs. Selects rules (members_from m 1 (front ++ start ∷ [])) (record { spans = xs; flags = more_flags })) (sym e)
    (subst (λ xs. Selects rules (members_from m 1 (front ++ start ∷ [])) (record { spans = spans ++ span ∷ []; flags = xs })) (sym f) next))
