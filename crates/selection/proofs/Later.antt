-- Whoever is in a run is there from the start, or was born later and has a number beyond the initial ones.
use Rattle.std.proofs.Common.{◌≡◌, ℕ, zero, suc, ◌+◌, ◌<◌, ◌≤◌, List, [], ◌∷◌, ◌++◌, length, map, Option, Some, None, ap, ◌∙◌, append_assoc, append-nil, subst, sym, arith}
use Rattle.std.specs.List.{All, flat_map}
use Rattle.std.proofs.lemmas.List.Elements.{All-cons, All-nil, All-weaker}
use Rattle.sim_base.specs.declared.moment.Moment.{Moment}
use Rattle.sim_base.specs.declared.moment.Row.{Row}
use Rattle.actor_trait.specs.Meaning.{IsLawful, Meaning}
use Rattle.sim_model.specs.Births.{births_of_moment, member_born}
use Rattle.sim_model.specs.Cast.{members_from}
use Rattle.sim_model.specs.Moment.{close, enter, fault_of_moment, next_id, reports, rows_of, what_comes_next}
use Rattle.sim_model.specs.Run.{follow, go_on, judge, most_moments, run_after, run_from, step}
use Rattle.sim_model.specs.SetupParts.{SetupParts}
use Rattle.sim_model.specs.Setups.{IsSetup}
use Rattle.sim_model.specs.Whole.{IsWhole, IsWholeAt, Numbered}
use Rattle.sim_model.specs.declared.cast.Member.{Member}
use Rattle.sim_model.specs.declared.next.Next.{Next}
use Rattle.sim_model.specs.declared.next.Next.TheVariants.{Enters, Ends}
use Rattle.sim_model.specs.declared.report.Fault.{Fault}
use Rattle.sim_model.specs.declared.report.Report.{Report}
use Rattle.sim_model.specs.declared.run.Results.{Results}
use Rattle.sim_model.specs.declared.stage.Stage.{Stage}
use Rattle.sim_model.specs.declared.stage.Stage.TheVariants.{Going, Over}
use Rattle.sim_model.specs.declared.stage.Underway.{Underway}
use Rattle.sim_model.specs.declared.world.WorldState.{WorldState}
use Rattle.sim_model.proofs.Keeping.{run_whole}
use Rattle.result_store.specs.RuleParts.{RuleParts}
use Rattle.selection.specs.Selecting.{CastGoesOn, IsCastFrom, RunTextStays, Selects}
use Rattle.selection.proofs.Dropping.{text_stays}
use Rattle.selection.specs.SelectionParts.{SelectionParts}

-- ---- the cast begins with the members

record Begins (members cast : List Member) : Type 0 where
  born : List Member
  whole : cast ≡ members ++ born

abbrev BeginsAt : {A : Type 0} → List Member → Stage A → Type 0
BeginsAt members (Going u) = Begins members u.world.cast
BeginsAt members (Over e) = Begins members e.world.cast

begins_more : (members cast more : List Member) → Begins members cast → Begins members (cast ++ more)
begins_more members cast more h = record { born = h.born ++ more; whole = ap (λ c. c ++ more) h.whole ∙ append_assoc members h.born more }

begins_follow : {A : Type 0} (members : List Member) (at : Moment) (w : WorldState A) (rows : List Row) (next : Next) → Begins members w.cast
    → BeginsAt members (follow at w rows next)
begins_follow members at w rows (Enters next) h = h
begins_follow members at w rows (Ends ending) h = h

begins_judge : {A : Type 0} (m : Meaning A) (members : List Member) (at : Moment) (w : WorldState A) (rows : List Row) (rs : List (Report A)) (o : Option Fault)
    → Begins members w.cast → BeginsAt members (judge m at w rows rs o)
begins_judge m members at w rows rs (Some fault) h = h
begins_judge m members at w rows rs None h =
    begins_follow members at (close m w rs) (rows ++ flat_map (rows_of at) rs) (what_comes_next (close m w rs) at)
    (begins_more members w.cast (map (member_born m) (births_of_moment m (next_id w) rs)) h)

begins_step : {A : Type 0} (m : Meaning A) (members : List Member) (u : Underway A) → Begins members u.world.cast → BeginsAt members (step m u)
unfolding step
begins_step m members u h =
    let entered = enter u.world u.next in
    begins_judge m members u.next entered u.rows (reports m entered u.next) (fault_of_moment m entered u.next (reports m entered u.next)) h

begins_next : {A : Type 0} (m : Meaning A) (members : List Member) (p : Stage A) → BeginsAt members p → BeginsAt members (go_on m p)
unfolding go_on
begins_next m members (Going u) h = begins_step m members u h
begins_next m members (Over e) h = h

begins_run : {A : Type 0} (m : Meaning A) (s : SetupParts A) (k : ℕ) → BeginsAt (members_from m 1 s.actors) (run_after m s k)
unfolding run_from
begins_run m s zero = record { born = []; whole = sym (append-nil (members_from m 1 s.actors)) }
begins_run m s (suc k) = begins_next m (members_from m 1 s.actors) (run_after m s k) (begins_run m s k)

-- ---- the others have the numbers that follow

above : (cast : List Member) (n : ℕ) → Numbered n (map (λ c. c.id) cast) → All (λ c. n ≤ c.id.0) cast
above [] n h = All-nil (λ c. n ≤ c.id.0)
above (c ∷ cast) n h =
    All-cons (λ c. n ≤ c.id.0) c cast (omega (arith, h.0))
    (All-weaker (λ c. n + 1 ≤ c.id.0) (λ c. n ≤ c.id.0) (λ c le. omega (arith, le)) cast (above cast (n + 1) h.1))

behind : (members born : List Member) (n : ℕ) → Numbered n (map (λ c. c.id) (members ++ born)) → All (λ c. n + length members ≤ c.id.0) born
behind [] born n h = All-weaker (λ c. n ≤ c.id.0) (λ c. n + 0 ≤ c.id.0) (λ c le. omega (arith, le)) born (above born n h)
behind (c ∷ members) born n h =
    All-weaker (λ c. n + 1 + length members ≤ c.id.0) (λ c. n + suc (length members) ≤ c.id.0) (λ c le. omega (arith, le)) born (behind members born (n + 1) h.1)

pub cast_goes_on : {A : Type 0} (m : Meaning A) → IsLawful m → (s : SetupParts A) → IsSetup s → CastGoesOn m s
cast_goes_on {A} m law s setup e over =
    let members = members_from m 1 s.actors in
    let whole : IsWhole m e.world = subst (λ (p : Stage A). IsWholeAt m p) over (run_whole m law s setup (most_moments s)) in
    let begins : Begins members e.world.cast = subst (λ (p : Stage A). BeginsAt members p) over (begins_run m s (most_moments s)) in
    let numbered : Numbered 1 (map (λ (c : Member). c.id) (members ++ begins.born)) =
    subst (λ cast. Numbered 1 (map (λ (c : Member). c.id) cast)) begins.whole whole.cast.numbered in
    record {
      born = begins.born;
      whole = begins.whole;
      later = All-weaker (λ c. 1 + length members ≤ c.id.0) (λ c. length members < c.id.0) (λ c le. omega (arith, le)) begins.born (behind members begins.born 1 numbered);
    }

-- ---- the text of a run

pub run_text-stays : {A : Type 0} (m : Meaning A) → IsLawful m → (s : SetupParts A) → IsSetup s → (rules : List RuleParts) (sel : SelectionParts)
    → Selects rules (members_from m 1 s.actors) sel → RunTextStays m s rules sel
run_text-stays m law s setup rules sel selects r run =
    let cast : r.cast ≡ run.0.world.cast = ap (λ (q : Results). q.cast) run.2 in
    text_stays rules (members_from m 1 s.actors) sel r selects
    (subst (IsCastFrom (members_from m 1 s.actors)) (sym cast) (cast_goes_on m law s setup run.0 run.1))
