-- The text without the rows that a selection of the rules doesn't keep.
use Rattle.std.proofs.Common.{◌≡◌, ℕ, suc, ◌+◌, ◌<◌, Bool, true, false, cond, nat_eq, List, [], ◌∷◌, ◌++◌, length, refl, sym, ap, ◌∙◌, subst, arith, true≢false}
use Rattle.std.specs.List.{All, filter, flat_map}
use Rattle.std.proofs.lemmas.Bool.{eqb-true}
use Rattle.std.proofs.lemmas.List.Elements.{All-append, All-head, All-tail, All-weaker}
use Rattle.sim_base.specs.declared.moment.Row.{Row}
use Rattle.sim_model.specs.declared.cast.Member.{Member}
use Rattle.sim_model.specs.declared.run.Results.{Results}
use Rattle.result_store.specs.Patterns.{series_name}
use Rattle.result_store.specs.RuleParts.{RuleParts}
use Rattle.result_store.specs.Rules.{keeps}
use Rattle.selection.specs.Selecting.{IsCastFrom, Selects, TextStays, keeps_probe, probes_of, shown}
use Rattle.result_store.specs.Series.{rows_of_actor, rows_of_series}
use Rattle.result_store.specs.Text.{end_line, header, member_text, row_line, series_from, series_text, text_of}
use Rattle.selection.specs.SelectionParts.{SelectionParts, may_show}

-- ---- one series

kept_row : (id n : ℕ) (w : Row) (xs ys : List Row) → rows_of_series id n xs ≡ rows_of_series id n ys → rows_of_series id n (w ∷ xs) ≡ rows_of_series id n (w ∷ ys)
kept_row id n w xs ys e = told (nat_eq w.actor.0 id)
  where
    told : (b : Bool) → filter (λ r. nat_eq r.probe n) (cond b (w ∷ rows_of_actor id xs) (rows_of_actor id xs)) ≡ filter (λ r. nat_eq r.probe n) (cond b (w ∷ rows_of_actor id ys) (rows_of_actor id ys))
    told true = ap (λ rows. cond (nat_eq w.probe n) (w ∷ rows) rows) e
    told false = e

dropped_row : (id n : ℕ) (w : Row) (xs ys : List Row) → (w.actor.0 ≡ id → w.probe ≡ n → true ≡ false) → rows_of_series id n xs ≡ rows_of_series id n ys
    → rows_of_series id n xs ≡ rows_of_series id n (w ∷ ys)
dropped_row id n w xs ys other e = told (nat_eq w.actor.0 id) (nat_eq w.probe n) refl refl
  where
    told : (b c : Bool) → nat_eq w.actor.0 id ≡ b → nat_eq w.probe n ≡ c
        → rows_of_series id n xs ≡ filter (λ r. nat_eq r.probe n) (cond b (w ∷ rows_of_actor id ys) (rows_of_actor id ys))
    told true true x y = absurd (true≢false (other (eqb-true _ _ x) (eqb-true _ _ y)))
    told true false x y = rw y e
    told false c x y = e

-- a filter that keeps each row of the series
series_stays : (p : Row → Bool) (id n : ℕ) (rows : List Row) → ((w : Row) → w.actor.0 ≡ id → w.probe ≡ n → p w ≡ true)
    → rows_of_series id n (filter p rows) ≡ rows_of_series id n rows
series_stays p id n [] h = refl
series_stays p id n (w ∷ rows) h = told (p w) refl (series_stays p id n rows h)
  where
    told : (b : Bool) → p w ≡ b → rows_of_series id n (filter p rows) ≡ rows_of_series id n rows
        → rows_of_series id n (cond b (w ∷ filter p rows) (filter p rows)) ≡ rows_of_series id n (w ∷ rows)
    told true is e = kept_row id n w (filter p rows) rows e
    told false is e = dropped_row id n w (filter p rows) rows (λ x y. sym (h w x y) ∙ is) e

series_text-stays : (rules : List RuleParts) (s : SelectionParts) (rows : List Row) (c : Member) (n : ℕ) (probe : List ℕ)
    → (keeps rules (series_name c.name probe) ≡ true → may_show s c.id n ≡ true)
    → series_text rules (shown s rows) c n probe ≡ series_text rules rows c n probe
series_text-stays rules s rows c n probe h = told (keeps rules (series_name c.name probe)) refl
  where
    lines : List Row → List ℕ
    lines xs = flat_map (row_line c.name probe) (rows_of_series c.id.0 n xs)

    told : (b : Bool) → keeps rules (series_name c.name probe) ≡ b → cond b (lines (shown s rows)) [] ≡ cond b (lines rows) []
    told true is = ap (flat_map (row_line c.name probe)) (series_stays (λ w. may_show s w.actor w.probe) c.id.0 n rows
        (λ w x y. ap (λ id. may_show s (record { 0 = id }) w.probe) x ∙ ap (λ k. may_show s c.id k) y ∙ h is))
    told false is = refl

-- ---- the series of the cast

-- the selection keeps the samples of the series that the rules keep
abbrev Shows : List RuleParts → SelectionParts → Member → Type 0
Shows rules s c = (n : ℕ) → n < length (probes_of c) → keeps_probe rules c.name (probes_of c) n ≡ true → may_show s c.id n ≡ true

series_stay : (rules : List RuleParts) (s : SelectionParts) (rows : List Row) (c : Member) (n : ℕ) (probes : List (List ℕ))
    → ((k : ℕ) → k < length probes → keeps_probe rules c.name probes k ≡ true → may_show s c.id (n + k) ≡ true)
    → series_from rules (shown s rows) c n probes ≡ series_from rules rows c n probes
series_stay rules s rows c n [] h = refl
series_stay rules s rows c n (probe ∷ probes) h =
    let here : n + 0 ≡ n = omega arith in
    let first = series_text-stays rules s rows c n probe (λ is. sym (ap (may_show s c.id) here) ∙ h 0 (omega arith) is) in
    let rest = series_stay rules s rows c (n + 1) probes
    (λ k less is. let next : (n + 1) + k ≡ n + suc k = omega arith in ap (may_show s c.id) next ∙ h (suc k) (omega (arith, less)) is) in
    ap (λ t. t ++ series_from rules (shown s rows) c (n + 1) probes) first ∙ ap (λ t. series_text rules rows c n probe ++ t) rest

member_stays : (rules : List RuleParts) (s : SelectionParts) (rows : List Row) (c : Member) → Shows rules s c → member_text rules (shown s rows) c ≡ member_text rules rows c
member_stays rules s rows c h =
    series_stay rules s rows c 0 (probes_of c) (λ k less is. let same : 0 + k ≡ k = omega arith in ap (may_show s c.id) same ∙ h k less is)

cast_stays : (rules : List RuleParts) (s : SelectionParts) (rows : List Row) (cast : List Member) → All (Shows rules s) cast
    → flat_map (member_text rules (shown s rows)) cast ≡ flat_map (member_text rules rows) cast
cast_stays rules s rows [] h = refl
cast_stays rules s rows (c ∷ cast) h =
    ap (λ t. t ++ flat_map (member_text rules (shown s rows)) cast) (member_stays rules s rows c (All-head (Shows rules s) c cast h))
    ∙ ap (λ t. member_text rules rows c ++ t) (cast_stays rules s rows cast (All-tail (Shows rules s) c cast h))

each_shows : (rules : List RuleParts) (members cast : List Member) (s : SelectionParts) → Selects rules members s → IsCastFrom members cast → All (Shows rules s) cast
each_shows rules members cast s sel from = subst (All (Shows rules s)) (sym from.whole) (All-append (Shows rules s) members from.born known later)
  where
    known : All (Shows rules s) members
    known = All-weaker (λ c. (n : ℕ) → n < length (probes_of c) → may_show s c.id n ≡ keeps_probe rules c.name (probes_of c) n) (Shows rules s)
        (λ c h n less is. h n less ∙ is) members sel.known

    later : All (Shows rules s) from.born
    later = All-weaker (λ c. length members < c.id.0) (Shows rules s) (λ c beyond n less is. sel.later c.id.0 n beyond) from.born from.later

pub text_stays : (rules : List RuleParts) (members : List Member) (s : SelectionParts) (r : Results) → Selects rules members s → IsCastFrom members r.cast → TextStays rules s r
unfolding text_of
text_stays rules members s r sel from =
    ap (λ t. header ++ t ++ end_line r.last r.ending r.dead_letters) (cast_stays rules s r.rows r.cast (each_shows rules members r.cast s sel from))
