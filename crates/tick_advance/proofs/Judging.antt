-- What becomes of the moment that is entered, in the world that is seen and in the run that it stands for.
use Rattle.std.proofs.Common.{◌≡◌, ℕ, ◌+◌, ◌<◌, List, [], ◌∷◌, ◌++◌, map, Some, None, Ok, Err, IfOk, ap, refl, sym, subst, ◌∙◌, add-one}
use Rattle.std.proofs.lemmas.List.Folds.{flat_map-map}
use Rattle.std.specs.List.{AllPairs, flat_map}
use Rattle.std.specs.declared.result.Result.{Result}
use Rattle.std.specs.List.Sorted.{IsStrictlyIncreasing}
use Rattle.sim_base.specs.declared.moment.Ending.TheVariants as ending
use Rattle.sim_base.specs.declared.moment.Moment.{Moment}
use Rattle.sim_base.specs.declared.moment.Row.{Row}
use Rattle.actor_trait.specs.Meaning.{IsLawful, Meaning}
use Rattle.actor_lifecycle.specs.Settling.{settled, settled_by}
use Rattle.quiescence.specs.Rounds.{RoundSums}
use Rattle.sim_model.specs.Births.{without_births}
use Rattle.sim_model.specs.Moment.{close, enter, fault_of_moment, next_id, reports, rows_of, what_comes_next}
use Rattle.sim_model.specs.Run.{follow, judge, opening, run_after, step}
use Rattle.sim_model.specs.SetupParts.{SetupParts}
use Rattle.sim_model.specs.Whole.{IsWhole}
use Rattle.sim_model.specs.declared.next.Next.{Next}
use Rattle.sim_model.specs.declared.next.Next.TheVariants.{Enters, Ends}
use Rattle.sim_model.specs.declared.parameters.Parameters.{Parameters}
use Rattle.sim_model.specs.declared.report.Fault.{Fault}
use Rattle.sim_model.specs.declared.report.Report.{Report}
use Rattle.sim_model.specs.declared.settled.Settled.{Settled}
use Rattle.sim_model.specs.declared.stage.Stage.{Stage}
use Rattle.sim_model.specs.declared.stage.Stage.TheVariants.{Going, Over}
use Rattle.sim_model.specs.declared.stage.Underway.{Underway}
use Rattle.sim_model.specs.declared.world.WorldState.{WorldState}
use Rattle.sim_model.proofs.Acting.{are_reports}
use Rattle.sim_model.proofs.Ascending.{pairs_map, to_increasing}
use Rattle.sim_model.proofs.Forward.{run_from-at}
use Rattle.local_manager.specs.Views.{IsClosed, IsSeenAs, SameInboxes, WorldParts, closed_now, reports_now, with_letters}
use Rattle.local_manager.specs.declared.phase.Phase.TheVariants as phase
use Rattle.tick_advance.specs.Following.{position_before, step_before}
use Rattle.tick_advance.specs.Log.{HasRows}
use Rattle.tick_advance.specs.Sound.{IsSoundWithin}
use Rattle.tick_advance.specs.RoundsOf.{rounds_after, with_moment, with_stage, with_work}
use Rattle.tick_advance.specs.Standing.{IsAt, IsWithin, SimParts, StandsFor, StandsWithin, step_to}
use Rattle.tick_advance.specs.declared.position.Position.{Position}
use Rattle.tick_advance.specs.declared.position.Position.TheVariants as position
use Rattle.tick_advance.specs.declared.position.Step.{Step}
use Rattle.tick_advance.proofs.Calling.{next_same}
use Rattle.tick_advance.proofs.Seeing.{reports_same}

-- ---- the reports

-- without the newborn they give the same rows
pub rows_kept : {A : Type 0} (at : Moment) (rs : List (Report A)) → flat_map (rows_of at) (map without_births rs) ≡ flat_map (rows_of at) rs
rows_kept at rs = flat_map-map (rows_of at) without_births rs

numbers : {A : Type 0} (rs : List (Report A)) → map (λ a. a.0) (map (λ r. r.id) rs) ≡ map (λ r. r.id.0) rs
numbers [] = refl
numbers (r ∷ rs) = ap (λ l. r.id.0 ∷ l) (numbers rs)

pub reports_ascend : {A : Type 0} (m : Meaning A) → IsLawful m → (w : WorldParts A) → IsWhole m (with_letters w.one [])
    → AllPairs (λ r q. r.id.0 < q.id.0) (reports_now m w)
reports_ascend m law w whole = (are_reports m law w.one w.moment whole.scheduled whole.cast.fits).ascend

pub reports_increase : {A : Type 0} (m : Meaning A) → IsLawful m → (w : WorldParts A) → IsWhole m (with_letters w.one [])
    → IsStrictlyIncreasing (map (λ r. r.id.0) (reports_now m w))
reports_increase {A} m law w whole =
    let rs : List (Report A) = reports_now m w in
    rw (← numbers rs) (to_increasing (map (λ r. r.id) rs) (pairs_map (λ a b. a.0 < b.0) (λ r. r.id) rs (reports_ascend m law w whole)))

pub kept_ascend : {A : Type 0} (rs : List (Report A)) → AllPairs (λ r q. r.id.0 < q.id.0) rs → AllPairs (λ r q. r.id.0 < q.id.0) (map without_births rs)
kept_ascend rs h = pairs_map (λ r q. r.id.0 < q.id.0) without_births rs h

-- ---- the world that is seen, beside the one of the run

-- the moment is that of the run, in its world but for letters, and the reports are the same
pub record Agrees {A : Type 0} (m : Meaning A) (w : WorldParts A) (u : Underway A) : Type 0 where
  pub moment : w.moment ≡ u.next
  pub world : w.one ≡ with_letters (enter u.world u.next) w.one.letters
  pub reports : reports_now m w ≡ reports m (enter u.world u.next) u.next

abbrev pub moment_in : Position → Moment → Moment
moment_in (position.Before at) d = d
moment_in (position.Within at) d = at
moment_in (position.Ended ending) d = d
moment_in position.Lost d = d

pub within_same : (p : Position) (at next : Moment) → p ≡ position.Within at → p ≡ position.Within next → at ≡ next
within_same p at next e f = ap (λ q. moment_in q at) (sym e ∙ f)

pub agrees : {A : Type 0} (m : Meaning A) (v : SimParts A) (u : Underway A) (at : Moment) → v.position ≡ position.Within at → v.world.moment ≡ at
    → IsWithin v u → Agrees m v.world u
agrees m v u at stands now h =
    let moment : v.world.moment ≡ u.next = now ∙ within_same v.position at u.next stands h.position in
    record {
      moment = moment;
      world = h.world;
      reports = ap (λ t. reports m v.world.one t) moment ∙ reports_same m v.world.one (enter u.world u.next) u.next h.world h.events;
    }

-- the same fault
fault_same : {A : Type 0} (m : Meaning A) (w : WorldParts A) (u : Underway A) → Agrees m w u
    → fault_of_moment m (enter u.world u.next) u.next (reports m (enter u.world u.next) u.next) ≡ fault_of_moment m w.one w.moment (reports_now m w)
fault_same {A} m w u h =
    sym (ap (λ (x : WorldState A). fault_of_moment m x w.moment (reports_now m w)) h.world
    ∙ ap (λ t. fault_of_moment m (enter u.world u.next) t (reports_now m w)) h.moment
    ∙ ap (λ rs. fault_of_moment m (enter u.world u.next) u.next rs) h.reports)

-- ---- where somebody shows a fault

-- the run ends with the world that it entered
pub steps_to_fault : {A : Type 0} (m : Meaning A) (w : WorldParts A) (u : Underway A) (fault : Fault) → Agrees m w u
    → fault_of_moment m w.one w.moment (reports_now m w) ≡ Some fault
    → step m u ≡ Over (record { last = u.next; ending = ending.Fault fault.actor fault.code; world = enter u.world u.next; rows = u.rows })
unfolding step
steps_to_fault m w u fault h shown =
    ap (judge m u.next (enter u.world u.next) u.rows (reports m (enter u.world u.next) u.next)) (fault_same m w u h ∙ shown)

pub over_by_fault : {A : Type 0} (m : Meaning A) (v : SimParts A) (u : Underway A) (at : Moment) (fault : Fault) → v.position ≡ position.Within at
    → v.world.moment ≡ at → fault_of_moment m v.world.one at (reports_now m v.world) ≡ Some fault → IsWithin v u
    → IsAt (record v { position = position.Ended (ending.Fault fault.actor fault.code) }) (step m u)
over_by_fault {A} m v u at fault stands now shown h =
    let same = agrees m v u at stands now h in
    let seen : fault_of_moment m v.world.one v.world.moment (reports_now m v.world) ≡ Some fault =
    ap (λ t. fault_of_moment m v.world.one t (reports_now m v.world)) now ∙ shown in
    rw (steps_to_fault m v.world u fault same seen)
    (record {
      position = refl;
      now = same.moment;
      cast = ap (λ (x : WorldState A). x.cast) same.world;
      dead_letters = ap (λ (x : WorldState A). x.dead_letters) same.world;
      rows = h.rows;
    })

pub step_by_fault : {A : Type 0} (m : Meaning A) (v : SimParts A) (u : Underway A) (at : Moment) (fault : Fault) → v.position ≡ position.Within at
    → v.world.moment ≡ at → fault_of_moment m v.world.one at (reports_now m v.world) ≡ Some fault → IsWithin v u
    → step_before (Ends (ending.Fault fault.actor fault.code)) ≡ step_to (step m u)
step_by_fault m v u at fault stands now shown h =
    let same = agrees m v u at stands now h in
    let seen : fault_of_moment m v.world.one v.world.moment (reports_now m v.world) ≡ Some fault =
    ap (λ t. fault_of_moment m v.world.one t (reports_now m v.world)) now ∙ shown in
    rw (steps_to_fault m v.world u fault same seen) refl

-- a moment is settled by the fault that it shows
pub settled_now : {A : Type 0} (m : Meaning A) (w seen : WorldParts A) (at : Moment) (s : Settled A) (max next : ℕ) (rs : List (Report A))
    → s ≡ settled m max next at rs → max ≡ seen.one.parameters.max_actors → next ≡ next_id seen.one → seen ≡ w → rs ≡ reports_now m w
    → s ≡ settled_by m (next_id w.one) (reports_now m w) (fault_of_moment m w.one at (reports_now m w))
settled_now {A} m w seen at s max next rs e most first same are =
    e
    ∙ ap (λ k. settled m k next at rs) (most ∙ ap (λ (x : WorldParts A). x.one.parameters.max_actors) same)
    ∙ ap (λ k. settled m w.one.parameters.max_actors k at rs) (first ∙ ap (λ (x : WorldParts A). next_id x.one) same)
    ∙ ap (λ (l : List (Report A)). settled m w.one.parameters.max_actors (next_id w.one) at l) are

-- ---- where nobody does

-- what closes is the same
pub closed_same : {A : Type 0} (m : Meaning A) (w : WorldParts A) (u : Underway A) → Agrees m w u
    → closed_now m w ≡ close m (enter u.world u.next) (reports m (enter u.world u.next) u.next)
closed_same {A} m w u h =
    ap (λ (x : WorldState A). close m x (reports_now m w)) h.world ∙ ap (λ rs. close m (enter u.world u.next) rs) h.reports

-- the run goes on to what comes next
pub steps_calmly : {A : Type 0} (m : Meaning A) (w : WorldParts A) (u : Underway A) → Agrees m w u
    → fault_of_moment m w.one w.moment (reports_now m w) ≡ None
    → step m u ≡ follow u.next (close m (enter u.world u.next) (reports m (enter u.world u.next) u.next))
    (u.rows ++ flat_map (rows_of u.next) (reports m (enter u.world u.next) u.next))
    (what_comes_next (close m (enter u.world u.next) (reports m (enter u.world u.next) u.next)) u.next)
unfolding step
steps_calmly m w u h calm =
    ap (judge m u.next (enter u.world u.next) u.rows (reports m (enter u.world u.next) u.next)) (fault_same m w u h ∙ calm)

-- a world that is closed, and what comes next, stand for the stage that follows
follows : {A : Type 0} (v : SimParts A) (at : Moment) (w : WorldState A) (rows : List Row) (next : Next) → v.position ≡ position_before next
    → v.world.phase ≡ phase.Closed → v.world.moment ≡ at → IsSeenAs v.world w at → HasRows v.log rows → IsAt v (follow at w rows next)
follows v at w rows (Enters next) stands closed now seen has =
    record { position = stands; phase = closed; now = now; world = seen; rows = has }
follows {A} v at w rows (Ends ending) stands closed now seen has = record {
  position = stands;
  now = now;
  cast = ap (λ (x : WorldState A). x.cast) seen.world;
  dead_letters = ap (λ (x : WorldState A). x.dead_letters) seen.world;
  rows = has;
}

step_follows : {A : Type 0} (at : Moment) (w : WorldState A) (rows : List Row) (next : Next) → step_before next ≡ step_to (follow at w rows next)
step_follows at w rows (Enters next) = refl
step_follows at w rows (Ends ending) = refl

-- what a closed moment leaves, beside what it was before
pub record Closes {A : Type 0} (m : Meaning A) (v next : SimParts A) (at : Moment) : Type 0 where
  pub stood : v.position ≡ position.Within at
  pub now : v.world.moment ≡ at
  pub calm : fault_of_moment m v.world.one at (reports_now m v.world) ≡ None
  pub closed : IsClosed m v.world next.world
  pub rows : (rows : List Row) → HasRows v.log rows → HasRows next.log (rows ++ flat_map (rows_of at) (reports_now m v.world))
  pub position : next.position ≡ position_before (what_comes_next next.world.one next.world.moment)

-- ... by its steps
pub closes : {A : Type 0} (m : Meaning A) (v old next : SimParts A) (leaves : ℕ) (at : Moment) (kept : List (Report A)) (comes : Next)
    → old ≡ v → IsSoundWithin old.world old.log leaves at → v.position ≡ position.Within at
    → fault_of_moment m v.world.one at (reports_now m v.world) ≡ None → kept ≡ map without_births (reports_now m old.world)
    → ((rows : List Row) → HasRows old.log rows → HasRows next.log (rows ++ flat_map (rows_of at) kept)) → IsClosed m old.world next.world
    → comes ≡ what_comes_next next.world.one next.world.moment → next.position ≡ position_before comes → Closes m v next at
closes {A} m v old next leaves at kept comes same sound stood calm are rows closed after stands =
    subst (λ (x : SimParts A). Closes m x next at) same (record {
      stood = ap (λ (x : SimParts A). x.position) same ∙ stood;
      now = sound.now;
      calm = ap (λ (x : SimParts A). fault_of_moment m x.world.one at (reports_now m x.world)) same ∙ calm;
      closed = closed;
      rows = λ before has. subst (λ (l : List Row). HasRows next.log (before ++ l))
          (ap (λ (rs : List (Report A)). flat_map (rows_of at) rs) are ∙ rows_kept at (reports_now m old.world)) (rows before has);
      position = stands ∙ ap position_before after;
    })

-- the closed world is that of the run, but for letters
pub seen_closed : {A : Type 0} (m : Meaning A) (w next : WorldParts A) (u : Underway A) → Agrees m w u → IsClosed m w next
    → IsSeenAs next (close m (enter u.world u.next) (reports m (enter u.world u.next) u.next)) u.next
seen_closed {A} m w next u same h =
    let closed : WorldState A = close m (enter u.world u.next) (reports m (enter u.world u.next) u.next) in
    let parameters : w.one.parameters ≡ closed.parameters = ap (λ (x : WorldState A). x.parameters) same.world in
    record {
      world = h.world ∙ ap (λ (x : WorldState A). with_letters x next.one.letters) (closed_same m w u same);
      letters = subst (λ (p : Parameters). SameInboxes p u.next next.one.letters closed.letters) parameters
          (subst (λ (t : Moment). SameInboxes w.one.parameters t next.one.letters closed.letters) same.moment
          (subst (λ (x : WorldState A). SameInboxes w.one.parameters w.moment next.one.letters x.letters) (closed_same m w u same) h.letters));
    }

pub follows_calm : {A : Type 0} (m : Meaning A) (v next : SimParts A) (u : Underway A) (at : Moment) → Closes m v next at → IsWithin v u
    → IsAt next (step m u)
follows_calm {A} m v next u at h within =
    let same = agrees m v u at h.stood h.now within in
    let calm : fault_of_moment m v.world.one v.world.moment (reports_now m v.world) ≡ None =
    ap (λ t. fault_of_moment m v.world.one t (reports_now m v.world)) h.now ∙ h.calm in
    let entered : WorldState A = enter u.world u.next in
    let closed : WorldState A = close m entered (reports m entered u.next) in
    let seen : IsSeenAs next.world closed u.next = seen_closed m v.world next.world u same h.closed in
    let now : next.world.moment ≡ u.next = ap (λ (x : WorldParts A). x.moment) h.closed.rest ∙ same.moment in
    let comes : what_comes_next next.world.one next.world.moment ≡ what_comes_next closed u.next =
    ap (λ t. what_comes_next next.world.one t) now ∙ next_same next.world.one closed u.next seen.world seen.letters in
    let rows : HasRows next.log (u.rows ++ flat_map (rows_of u.next) (reports m entered u.next)) =
    subst (λ (rs : List (Report A)). HasRows next.log (u.rows ++ flat_map (rows_of u.next) rs)) same.reports
    (subst (λ (t : Moment). HasRows next.log (u.rows ++ flat_map (rows_of t) (reports_now m v.world))) (sym h.now ∙ same.moment)
    (h.rows u.rows within.rows)) in
    rw (steps_calmly m v.world u same calm)
    (follows next u.next closed (u.rows ++ flat_map (rows_of u.next) (reports m entered u.next)) (what_comes_next closed u.next)
    (h.position ∙ ap position_before comes) (ap (λ (x : WorldParts A). x.phase) h.closed.rest) now seen rows)

pub step_calm : {A : Type 0} (m : Meaning A) (v next : SimParts A) (u : Underway A) (at : Moment) → Closes m v next at → IsWithin v u
    → step_before (what_comes_next next.world.one next.world.moment) ≡ step_to (step m u)
step_calm {A} m v next u at h within =
    let same = agrees m v u at h.stood h.now within in
    let calm : fault_of_moment m v.world.one v.world.moment (reports_now m v.world) ≡ None =
    ap (λ t. fault_of_moment m v.world.one t (reports_now m v.world)) h.now ∙ h.calm in
    let entered : WorldState A = enter u.world u.next in
    let closed : WorldState A = close m entered (reports m entered u.next) in
    let seen : IsSeenAs next.world closed u.next = seen_closed m v.world next.world u same h.closed in
    let now : next.world.moment ≡ u.next = ap (λ (x : WorldParts A). x.moment) h.closed.rest ∙ same.moment in
    let comes : what_comes_next next.world.one next.world.moment ≡ what_comes_next closed u.next =
    ap (λ t. what_comes_next next.world.one t) now ∙ next_same next.world.one closed u.next seen.world seen.letters in
    rw (steps_calmly m v.world u same calm)
    (ap step_before comes
    ∙ step_follows u.next closed (u.rows ++ flat_map (rows_of u.next) (reports m entered u.next)) (what_comes_next closed u.next))

-- ---- the run after one moment more

-- the round of the moment is that of the run
pub moment_same : {A : Type 0} (m : Meaning A) (w : WorldParts A) (u : Underway A) (sums : RoundSums) → Agrees m w u
    → with_moment m w.one w.moment sums ≡ with_stage m (Going u) sums
moment_same {A} m w u sums h =
    ap (λ (x : WorldState A). with_work m w.moment x.scheduled (reports_now m w) sums) h.world
    ∙ ap (λ t. with_work m t (enter u.world u.next).scheduled (reports_now m w) sums) h.moment
    ∙ ap (λ rs. with_work m u.next (enter u.world u.next).scheduled rs sums) h.reports

pub after_more : {A : Type 0} (m : Meaning A) (s : SetupParts A) (k : ℕ) (u : Underway A) → run_after m s k ≡ Going u
    → run_after m s (k + 1) ≡ step m u
after_more m s k u e = rw add-one (run_from-at m (Going (opening m s)) u k e)

-- one moment more is closed, or ended the run
pub stands_next : {A : Type 0} (m : Meaning A) (s : SetupParts A) (k : ℕ) (v next : SimParts A) (at : Moment) → v.position ≡ position.Within at
    → v.world.moment ≡ at → ((u : Underway A) → IsWithin v u → IsAt next (step m u)) → next.rounds ≡ with_moment m v.world.one at v.rounds
    → StandsWithin m s k v → StandsFor m s (k + 1) next
unfolding rounds_after
stands_next {A} m s k v next at stands now stage counted h =
    let same = agrees m v h.underway at stands now h.within in
    let after : run_after m s (k + 1) ≡ step m h.underway = after_more m s k h.underway h.stage in
    let sums : next.rounds ≡ with_stage m (run_after m s k) (rounds_after m s k) =
    counted
    ∙ ap (λ t. with_moment m v.world.one t v.rounds) (sym now)
    ∙ moment_same m v.world h.underway v.rounds same
    ∙ ap (λ (x : RoundSums). with_stage m (Going h.underway) x) h.rounds
    ∙ ap (λ (p : Stage A). with_stage m p (rounds_after m s k)) (sym h.stage) in
    record {
      setup = h.setup;
      stage = rw after (stage h.underway h.within);
      rounds = rw add-one sums;
    }

pub step_next : {A : Type 0} (m : Meaning A) (s : SetupParts A) (k : ℕ) (v : SimParts A) (went : Step)
    → ((u : Underway A) → IsWithin v u → went ≡ step_to (step m u)) → StandsWithin m s k v → went ≡ step_to (run_after m s (k + 1))
step_next {A} m s k v went stage h = stage h.underway h.within ∙ ap (λ (p : Stage A). step_to p) (sym (after_more m s k h.underway h.stage))

-- ---- answers

pub if_ok : {T F : Type 0} (P Q : T → Type 0) (r : Result T F) → ((x : T) → P x → Q x) → IfOk r P → IfOk r Q
if_ok P Q (Ok x) f h = f x h
if_ok P Q (Err e) f h = tt
