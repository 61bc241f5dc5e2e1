-- Each moment of a run is later than the one before, so a run ends.
use Rattle.std.proofs.Common.{◌≡◌, ℕ, zero, suc, ◌+◌, ◌*◌, ◌-◌, ◌<◌, ◌≤◌, Bool, true, false, not, ◌&&◌, cond, nat_eq, nat_lt, List, [], ◌∷◌}
use Rattle.std.proofs.Common.{◌++◌, Option, Some, None, length, map, zero-add, suc-add, arith, length-append, refl, sym, ◌∙◌, ap, subst}
use Rattle.std.specs.List.{fold, flat_map}
use Rattle.std.proofs.lemmas.Bool.Decides.{nat_tests}
use Rattle.std.proofs.lemmas.Grind.{common_steps}
use Rattle.std.proofs.lemmas.List.{length-map}
use Rattle.sim_base.specs.declared.ids.ActorId.{ActorId}
use Rattle.sim_base.specs.declared.moment.Ending.TheVariants as ending
use Rattle.sim_base.specs.declared.moment.Moment.{Moment}
use Rattle.sim_base.specs.declared.moment.Row.{Row}
use Rattle.actor_trait.specs.Meaning.{Meaning}
use Rattle.agenda.specs.Dues.{without_tick}
use Rattle.agenda.specs.declared.due.Due.{Due}
use Rattle.sim_model.specs.Moment.{ask_of, close, enter, fault_of_moment, first_fault, is_spontaneous, next_for, is_among, next_id}
use Rattle.sim_model.specs.Moment.{next_tick, put_state, reports, retired, rows_of, scheduled, what_comes_next}
use Rattle.sim_model.specs.Births.{births_of_moment}
use Rattle.sim_model.specs.Run.{IsRun, RunEnds, RunGoesOn, follow, go_on, judge, most_moments, results_of, opening, run_after, run_from, run_of, step}
use Rattle.sim_model.specs.SetupParts.{SetupParts}
use Rattle.sim_model.specs.Setups.{IsSetup, parameters_of}
use Rattle.sim_model.specs.Stepping.{RisesFrom}
use Rattle.sim_model.specs.declared.parameters.Parameters.{Parameters}
use Rattle.sim_model.specs.declared.births.Newborn.{Newborn}
use Rattle.sim_model.specs.declared.next.Next.{Next}
use Rattle.sim_model.specs.declared.next.Next.TheVariants.{Enters, Ends}
use Rattle.sim_model.specs.declared.report.Fault.{Fault}
use Rattle.sim_model.specs.declared.report.Report.{Report}
use Rattle.sim_model.specs.declared.stage.Ended.{Ended}
use Rattle.sim_model.specs.declared.stage.Stage.{Stage}
use Rattle.sim_model.specs.declared.stage.Stage.TheVariants.{Going, Over}
use Rattle.sim_model.specs.declared.stage.Underway.{Underway}
use Rattle.sim_model.specs.declared.world.WorldState.{WorldState}
use Rattle.sim_model.proofs.Calm.{asks_rise, numbers_fit}
use Rattle.sim_model.proofs.Numbers.{births-length}
use Rattle.sim_model.proofs.Rising.{filter_rises, rises_from, without_rises}

-- the place of a moment among all that a run may enter
abbrev pub rank : Parameters → Moment → ℕ
rank p at = at.tick * p.diasca_limit + at.diasca

pub rank_grows : (t u limit d e : ℕ) → t < u → d < limit → t * limit + d < u * limit + e
rank_grows t u limit d e lt le =
    let more : (t + 1) * limit ≤ u * limit = grind arith in
    let same : (t + 1) * limit ≡ t * limit + limit = grind arith in
    omega arith

-- no tick that is asked for is below this
abbrev pub floor : Moment → ℕ
floor at = cond (is_spontaneous at) at.tick (suc at.tick)

floor_first : (t : ℕ) → 0 < t → floor (record { tick = t; diasca = 0 }) ≡ t
floor_first t lt = told (nat_eq t 0) refl where
  told : (b : Bool) → nat_eq t 0 ≡ b → cond (not b && true) t (suc t) ≡ t
  told true e = absurd (grind (arith, nat_tests, e, lt))
  told false e = refl

floor_later : (t d : ℕ) → floor (record { tick = t; diasca = d + 1 }) ≡ suc t
floor_later t d = told (nat_eq t 0) (nat_eq (d + 1) 0) refl where
  told : (b c : Bool) → nat_eq (d + 1) 0 ≡ c → cond (not b && c) t (suc t) ≡ suc t
  told true c e = refl
  told false true e = absurd (grind (arith, nat_tests, e))
  told false false e = refl

-- ---- what comes next is later

-- a moment that may be entered after this one, with that agenda
pub record Later (p : Parameters) (at : Moment) (ds : List Due) (next : Moment) : Type 0 where
  pub tick : next.tick ≤ p.last_tick
  pub diasca : next.diasca < p.diasca_limit
  pub rank : rank p at < rank p next
  pub agenda : RisesFrom (floor next) ds

next_tick_later : (p : Parameters) (at next : Moment) (ds : List Due)
    → at.diasca < p.diasca_limit → RisesFrom (suc at.tick) ds → next_tick p.last_tick ds ≡ Enters next → Later p at ds next
next_tick_later p at next [] low h e = cc
next_tick_later p at next (d ∷ ds) low h e = told (nat_lt p.last_tick d.tick) refl e where
  first : Moment
  first = record { tick = d.tick; diasca = 0 }

  told : (b : Bool) → nat_lt p.last_tick d.tick ≡ b → cond b (Ends ending.TickLimit) (Enters first) ≡ Enters next → Later p at (d ∷ ds) next
  told true t e2 = cc
  told false t e2 =
      let same : first ≡ next = cc in
      let fits : d.tick ≤ p.last_tick = grind (arith, nat_tests, t) in
      let lt : at.tick < d.tick = omega (arith, h.0) in
      let goes : Later p at (d ∷ ds) first = record {
        tick = fits;
        diasca = omega
            (arith, low);
        rank = rank_grows at.tick d.tick p.diasca_limit at.diasca 0 lt low;
        agenda = rw
            (floor_first d.tick (omega (arith, lt))) (omega arith, h.1);
      } in
      rw same at goes

next_for_later : {A : Type 0} (w : WorldState A) (at next : Moment) (ids : List ActorId) → at.tick ≤ w.parameters.last_tick
    → at.diasca < w.parameters.diasca_limit
    → RisesFrom (suc at.tick) w.agenda → next_for w at ids ≡ Enters next → Later w.parameters at w.agenda next
next_for_later w at next [] fits low h e = next_tick_later w.parameters at next w.agenda low h e
next_for_later w at next (id ∷ ids) fits low h e = told (nat_eq (at.diasca + 1) w.parameters.diasca_limit) refl e where
  second : Moment
  second = record { tick = at.tick; diasca = at.diasca + 1 }

  told : (b : Bool) → nat_eq (at.diasca + 1) w.parameters.diasca_limit ≡ b → cond b (Ends ending.DiascaLimit) (Enters second) ≡ Enters next
      → Later w.parameters at w.agenda next
  told true t e2 = cc
  told false t e2 =
      let same : second ≡ next = cc in
      let below : at.diasca + 1 < w.parameters.diasca_limit = grind (arith, nat_tests, t, low) in
      let goes : Later w.parameters at w.agenda second = record {
        tick = fits;
        diasca = below;
        rank = omega arith;
        agenda = rw
            (floor_later at.tick at.diasca) h;
      } in
      rw same at goes

-- ---- what holds of each moment that is entered

pub record Sound {A : Type 0} (w : WorldState A) (at : Moment) : Type 0 where
  pub tick : at.tick ≤ w.parameters.last_tick
  pub diasca : at.diasca < w.parameters.diasca_limit
  pub agenda : RisesFrom (floor at) w.agenda
  pub count : length w.states ≤ w.parameters.max_actors

-- no tick of the agenda is below that of the moment
pub agenda_rises : {A : Type 0} (w : WorldState A) (at : Moment) → Sound w at → RisesFrom at.tick w.agenda
agenda_rises w at h = told (is_spontaneous at) h.agenda where
  told : (b : Bool) → RisesFrom (cond b at.tick (suc at.tick)) w.agenda → RisesFrom at.tick w.agenda
  told true r = r
  told false r = rises_from at.tick (suc at.tick) w.agenda (omega arith) r

-- a tick that is entered leaves the agenda
entered_rises : (b : Bool) (t : ℕ) (ds : List Due) → RisesFrom (cond b t (suc t)) ds → RisesFrom (suc t) (cond b (without_tick t ds) ds)
entered_rises true t ds h = without_rises t ds h
entered_rises false t ds h = h

put_state-length : {A : Type 0} (states : List (Option A)) (r : Report A) → length (put_state states r) ≡ length states
put_state-length states r = grind (arith, common_steps)

pub put_states-length : {A : Type 0} (rs : List (Report A)) (states : List (Option A)) → length (fold put_state states rs) ≡ length states
put_states-length [] states = refl
put_states-length (r ∷ rs) states = put_states-length rs (put_state states r) ∙ put_state-length states r

-- ---- one moment

pub record Follows {A : Type 0} (at : Moment) (w : WorldState A) (n : Next) (u : Underway A) : Type 0 where
  pub last : u.last ≡ Some at
  pub next : n ≡ Enters u.next
  pub world : w ≡ u.world

follow_going : {A : Type 0} (at : Moment) (w : WorldState A) (rows : List Row) (next : Next) (u : Underway A)
    → follow at w rows next ≡ Going u → Follows at w next u
follow_going {A} at w rows (Enters next) u e =
    let made : Underway A = record { last = Some at; next = next; world = w; rows = rows } in
    let same : made ≡ u = cc in
    record { last = sym (ap (λ v. v.last) same); next = ap (λ v. Enters v.next) same; world = ap (λ v. v.world) same }
follow_going at w rows (Ends ending) u e = cc

pub record StepsOn {A : Type 0} (at : Moment) (closed : WorldState A) (u : Underway A) : Type 0 where
  pub last : u.last ≡ Some at
  pub later : Later closed.parameters at closed.agenda u.next
  pub world : closed ≡ u.world
  pub count : length closed.states ≤ closed.parameters.max_actors

-- nobody is born past the last number
pub closed_count : {A : Type 0} (m : Meaning A) (max : ℕ) (at : Moment) (w : WorldState A) (rs : List (Report A))
    → first_fault m max (next_id w) at rs ≡ None
    → length w.states ≤ max → length (close m w rs).states ≤ max
closed_count {A} m max at w rs none le =
    let born : List (Newborn A) = births_of_moment m (next_id w) rs in
    let state_of_birth : Newborn A → Option A = λ b. Some b.state in
    let all : length (close m w rs).states ≡ length w.states + length born =
    length-append (fold put_state w.states rs) (map state_of_birth born)
    ∙ ap (λ n. n + length (map state_of_birth born)) (put_states-length rs w.states) ∙ ap (λ n. length w.states + n)
    (length-map born state_of_birth) in
    omega (arith, all, births-length m rs (next_id w), numbers_fit m max (next_id w) at rs none (omega (arith, le)))

judge_going : {A : Type 0} (m : Meaning A) (at : Moment) (w : WorldState A) (rows : List Row) (rs : List (Report A)) (o : Option Fault)
    (u : Underway A)
    → at.tick ≤ w.parameters.last_tick → at.diasca < w.parameters.diasca_limit → length w.states ≤ w.parameters.max_actors
    → fault_of_moment m w at rs ≡ o → RisesFrom (suc at.tick) w.agenda
    → judge m at w rows rs o ≡ Going u → StepsOn at (close m w rs) u
judge_going m at w rows rs (Some f) u fits low count none h e = cc
judge_going m at w rows rs None u fits low count none h e =
    let goes = follow_going at (close m w rs) (rows ++ flat_map (rows_of at) rs) (what_comes_next (close m w rs) at) u e in
    record {
      last = goes.last;
      later = next_for_later (close m w rs) at u.next (scheduled (close m w rs) (record { tick = at.tick; diasca = at.diasca + 1 })) fits low
          (filter_rises (λ d. not (is_among (retired rs) d.actor)) (suc at.tick) (fold ask_of w.agenda rs)
          (asks_rise m w.parameters.max_actors (next_id w) at rs w.agenda none h)) goes.next;
      world = goes.world;
      count = closed_count m w.parameters.max_actors at w rs none count;
    }

pub step_going : {A : Type 0} (m : Meaning A) (u next : Underway A) → Sound u.world u.next → step m u ≡ Going next
    → StepsOn u.next (close m (enter u.world u.next) (reports m (enter u.world u.next) u.next)) next
unfolding step
step_going m u next h e =
    judge_going m u.next (enter u.world u.next) u.rows (reports m (enter u.world u.next) u.next) _ next h.tick h.diasca h.count refl
    (entered_rises (is_spontaneous u.next) u.next.tick u.world.agenda h.agenda) e

pub step_sound : {A : Type 0} (m : Meaning A) (u next : Underway A) → Sound u.world u.next → step m u ≡ Going next → Sound next.world next.next
step_sound {A} m u next h e =
    let on = step_going m u next h e in
    let closed : WorldState A = close m (enter u.world u.next) (reports m (enter u.world u.next) u.next) in
    let sound : Sound closed next.next = record { tick = on.later.tick; diasca = on.later.diasca; agenda = on.later.agenda; count = on.count } in
    subst (λ w. Sound w next.next) on.world sound

pub step_parameters : {A : Type 0} (m : Meaning A) (u next : Underway A) → Sound u.world u.next → step m u ≡ Going next
    → next.world.parameters ≡ u.world.parameters
step_parameters m u next h e = sym (ap (λ w. w.parameters) (step_going m u next h e).world)

pub step_rank : {A : Type 0} (m : Meaning A) (u next : Underway A) → Sound u.world u.next → step m u ≡ Going next
    → rank u.world.parameters u.next < rank u.world.parameters next.next
step_rank m u next h e = (step_going m u next h e).later.rank

-- ---- the whole run

pub rank_below_most : {A : Type 0} (s : SetupParts A) (at : Moment) → at.tick ≤ s.last_tick → at.diasca < s.diasca_limit
    → rank (parameters_of s) at < most_moments s
rank_below_most s at tick diasca =
    let lt : at.tick < s.last_tick + 1 = omega (arith, tick) in
    omega (arith, rank_grows at.tick (s.last_tick + 1) s.diasca_limit at.diasca 0 lt diasca)

-- a stage that the run of the setup has come to after so many moments
pub record IsFine {A : Type 0} (s : SetupParts A) (u : Underway A) (k : ℕ) : Type 0 where
  pub sound : Sound u.world u.next
  pub parameters : u.world.parameters ≡ parameters_of s
  pub within : k ≤ rank (parameters_of s) u.next

pub fine_below : {A : Type 0} (s : SetupParts A) (u : Underway A) (k : ℕ) → IsFine s u k → rank (parameters_of s) u.next < most_moments s
fine_below s u k h =
    rank_below_most s u.next (subst (λ p. u.next.tick ≤ p.last_tick) h.parameters h.sound.tick)
    (subst (λ p. u.next.diasca < p.diasca_limit) h.parameters h.sound.diasca)

pub fine_start : {A : Type 0} (m : Meaning A) (s : SetupParts A) → IsSetup s → IsFine s (opening m s) 0
fine_start m s setup = record {
  sound = record {
    tick = omega arith;
    diasca = omega (arith, setup.some_diasca);
    agenda = tt;
    count = simp length-map
        (omega (arith, setup.actors));
  };
  parameters = refl;
  within = omega arith;
}

pub fine_rank : {A : Type 0} (m : Meaning A) (s : SetupParts A) (u next : Underway A) (k : ℕ) → IsFine s u k → step m u ≡ Going next
    → rank (parameters_of s) u.next < rank (parameters_of s) next.next
fine_rank m s u next k h e = subst (λ p. rank p u.next < rank p next.next) h.parameters (step_rank m u next h.sound e)

pub fine_next : {A : Type 0} (m : Meaning A) (s : SetupParts A) (u next : Underway A) (k : ℕ) → IsFine s u k → step m u ≡ Going next
    → IsFine s next (suc k)
fine_next m s u next k h e = record {
  sound = step_sound m u next h.sound e;
  parameters = step_parameters m u next h.sound e ∙ h.parameters;
  within = omega (arith, fine_rank m s u next k h e, h.within);
}

pub run_from-at : {A : Type 0} (m : Meaning A) (p : Stage A) (u : Underway A) (k : ℕ) → run_from m p k ≡ Going u → run_from m p (suc k) ≡ step m u
unfolding run_from go_on
run_from-at m p u k e = ap (λ q. go_on m q) e

stays : {A : Type 0} (m : Meaning A) (p : Stage A) (e : Ended A) (k j : ℕ) → run_from m p k ≡ Over e → run_from m p (j + k) ≡ Over e
unfolding run_from go_on
stays m p e k zero h = rw zero-add h
stays m p e k (suc j) h = rw suc-add (ap (λ q. go_on m q) (stays m p e k j h))

pub fine_end : {A : Type 0} (m : Meaning A) (s : SetupParts A) (u : Underway A) (e : Ended A) (k : ℕ) → IsFine s u k
    → run_after m s k ≡ Going u → step m u ≡ Over e → IsRun m s (results_of e)
fine_end m s u e k h there over =
    let fits : suc k ≤ most_moments s = omega (arith, fine_below s u k h, h.within) in
    let all : (most_moments s - suc k) + suc k ≡ most_moments s = omega arith in
    let end = stays m (Going (opening m s)) e (suc k) (most_moments s - suc k) (run_from-at m (Going (opening m s)) u k there ∙ over) in
    (e, rw all at end, refl)

-- ---- every run is over after its last moment

abbrev pub FineAt : {A : Type 0} → SetupParts A → Stage A → ℕ → Type 0
FineAt s (Going u) k = IsFine s u k
FineAt s (Over e) k = Unit {0}

step_fine : {A : Type 0} (m : Meaning A) (s : SetupParts A) (u : Underway A) (k : ℕ) → IsFine s u k → (p : Stage A) → step m u ≡ p
    → FineAt s p (suc k)
step_fine m s u k h (Going next) e = fine_next m s u next k h e
step_fine m s u k h (Over x) e = tt

goes_fine : {A : Type 0} (m : Meaning A) (s : SetupParts A) (k : ℕ) (p : Stage A) → FineAt s p k → FineAt s (go_on m p) (suc k)
unfolding go_on
goes_fine m s k (Going u) h = step_fine m s u k h (step m u) refl
goes_fine m s k (Over e) h = tt

pub fine_after : {A : Type 0} (m : Meaning A) (s : SetupParts A) → IsSetup s → (k : ℕ) → FineAt s (run_after m s k) k
unfolding run_from
fine_after m s setup zero = fine_start m s setup
fine_after m s setup (suc k) = goes_fine m s k (run_after m s k) (fine_after m s setup k)

pub run_ends : {A : Type 0} (m : Meaning A) (s : SetupParts A) → IsSetup s → RunEnds m s
run_ends {A} m s setup = at_end (run_of m s) refl where
  at_end : (p : Stage A) → run_of m s ≡ p → RunEnds m s
  at_end (Over e) is = (e, is)
  at_end (Going u) is =
      let fine : FineAt s (Going u) (most_moments s) = subst (λ q. FineAt s q (most_moments s)) is (fine_after m s setup (most_moments s)) in
      absurd (omega (arith, fine_below s u (most_moments s) fine, fine.within))

-- ---- a run goes on from each of its stages

runs_on : {A : Type 0} (m : Meaning A) (p : Stage A) (k j : ℕ) → run_from m (run_from m p k) j ≡ run_from m p (k + j)
unfolding run_from
runs_on m p k zero = let same : k + 0 ≡ k = omega arith in rw same refl
runs_on m p k (suc j) = let same : k + suc j ≡ suc (k + j) = omega arith in rw same (ap (λ q. go_on m q) (runs_on m p k j))

pub run_goes_on : {A : Type 0} (m : Meaning A) (s : SetupParts A) → IsSetup s → (k j : ℕ) → RunGoesOn m s k j
run_goes_on m s setup k j =
    let end = run_ends m s setup in
    let over = stays m (Going (opening m s)) end.0 (most_moments s) k end.1 in
    record { later = runs_on m (Going (opening m s)) k j; whole = runs_on m (Going (opening m s)) k (most_moments s) ∙ over ∙ sym end.1 }
