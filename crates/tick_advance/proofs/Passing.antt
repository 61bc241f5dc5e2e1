-- Moments that pass, one after the other.
use Rattle.std.proofs.Common.{◌≡◌, ℕ, Bool, true, false, zero, suc, inl, inr, ◌+◌, ◌-◌, ◌<◌, ◌≤◌, List, [], ◌∷◌, length, add-one, ap, arith, refl, sym, subst, ◌∙◌}
use Rattle.std.proofs.lemmas.Bool.{cases_eq}
use Rattle.std.specs.Prelude.{Err, Ok, OnOk, Result, is_err}
use Rattle.std.specs.List.{filter_map}
use Rattle.sim_base.specs.declared.ids.ActorId.{ActorId}
use Rattle.sim_base.specs.declared.moment.Ending.{Ending}
use Rattle.sim_base.specs.declared.moment.Moment.{Moment}
use Rattle.actor_trait.specs.InboxOrder.{inbox_order}
use Rattle.actor_trait.specs.Meaning.{Meaning}
use Rattle.sim_model.specs.Moment.{report_of}
use Rattle.sim_model.specs.Run.{go_on, most_moments, run_after, run_from, step}
use Rattle.sim_model.specs.SetupParts.{SetupParts}
use Rattle.sim_model.specs.Setups.{IsSetup, parameters_of}
use Rattle.sim_model.specs.declared.report.Report.{Report}
use Rattle.sim_model.specs.declared.stage.Stage.{Stage}
use Rattle.sim_model.specs.declared.stage.Stage.TheVariants.{Going, Over}
use Rattle.sim_model.specs.declared.stage.Underway.{Underway}
use Rattle.sim_model.proofs.Called.{none_in_order}
use Rattle.sim_model.proofs.Forward.{FineAt, fine_after, fine_below, fine_rank, rank}
use Rattle.local_manager.specs.Views.{WorldParts, reports_now, sent_at}
use Rattle.work_claims.specs.Letters.{letters_sent}
use Rattle.work_claims.specs.Worlds.{placed_in}
use Rattle.tick_advance.specs.Harvests.{AreInboxesSent}
use Rattle.tick_advance.specs.Log.{LogParts}
use Rattle.tick_advance.specs.Sound.{IsSoundAt}
use Rattle.tick_advance.specs.RoundsOf.{rounds_after, with_stage}
use Rattle.tick_advance.specs.Standing.{IsAt, IsBefore, IsInTick, IsOn, IsWithin, LeadsTo, PassesTick, SievedSim, SimParts, StandsFor, StandsWithin, progress_to, sim_of, step_to}
use Rattle.tick_advance.specs.declared.position.Position.{Position}
use Rattle.tick_advance.specs.declared.position.Position.TheVariants as position
use Rattle.tick_advance.specs.declared.position.Progress.{Progress}
use Rattle.tick_advance.specs.declared.position.Progress.TheVariants as progress
use Rattle.tick_advance.specs.declared.position.Step.{Step}
use Rattle.tick_advance.specs.declared.position.Step.TheVariants as went

-- ---- a moment at which nobody is scheduled

no_items : {X : Type 0} (xs : List X) → length xs ≡ 0 → xs ≡ []
no_items [] e = refl
no_items (x ∷ xs) e = absurd (omega (arith, e))

pub no_reports : {A : Type 0} (m : Meaning A) (w : WorldParts A) → length w.one.scheduled ≡ 0 → reports_now m w ≡ []
no_reports m w none = ap (λ (ids : List ActorId). filter_map (report_of m w.one w.moment) ids) (no_items w.one.scheduled none)

-- nothing is sent
pub no_inboxes : {A : Type 0} (m : Meaning A) (w : WorldParts A) → length w.one.scheduled ≡ 0 → AreInboxesSent m w []
no_inboxes {A} m w none = λ to.
    sym (ap (λ (rs : List (Report A)). inbox_order (letters_sent m (placed_in w) rs) to (sent_at w.one.parameters w.moment)) (no_reports m w none)
    ∙ none_in_order (sent_at w.one.parameters w.moment))

-- ---- one moment more

-- it has entered the next moment
pub stands_within : {A : Type 0} (m : Meaning A) (s : SetupParts A) (k : ℕ) (v mid : SimParts A) (at : Moment) → v.position ≡ position.Before at
    → ((u : Underway A) → IsBefore v u → IsWithin mid u) → mid.rounds ≡ v.rounds → StandsFor m s k v → StandsWithin m s k mid
stands_within {A} m s k v mid at stands enters same h = told (run_after m s k) refl h.stage
  where
    told : (p : Stage A) → run_after m s k ≡ p → IsAt v p → StandsWithin m s k mid
    told (Going u) e before = record { setup = h.setup; underway = u; stage = e; within = enters u before; rounds = same ∙ h.rounds }
    told (Over end) e over = absurd (let clash : position.Before at ≡ position.Ended end.ending = sym stands ∙ over.position in cc)

-- a run that is over stays so
pub record RestsAt {A : Type 0} (m : Meaning A) (s : SetupParts A) (k : ℕ) (v : SimParts A) (ending : Ending) : Type 0 where
  pub stands : StandsFor m s (k + 1) v
  pub step : went.Ended ending ≡ step_to (run_after m s (k + 1))

pub rests : {A : Type 0} (m : Meaning A) (s : SetupParts A) (k : ℕ) (v : SimParts A) (ending : Ending) → v.position ≡ position.Ended ending
    → StandsFor m s k v → RestsAt m s k v ending
unfolding run_from go_on rounds_after
rests {A} m s k v ending stands h = told (run_after m s k) refl h.stage
  where
    told : (p : Stage A) → run_after m s k ≡ p → IsAt v p → RestsAt m s k v ending
    told (Going u) e before = absurd (let clash : position.Ended ending ≡ position.Before u.next = sym stands ∙ before.position in cc)
    told (Over end) e over =
        let more : run_after m s (suc k) ≡ Over end = ap (λ p. go_on m p) e in
        let same : position.Ended ending ≡ position.Ended end.ending = sym stands ∙ over.position in
        let ends : ending ≡ end.ending = cc in
        let here : StandsFor m s (suc k) v = record {
          setup = h.setup;
          stage = subst (λ p. IsAt v p) (sym more) over;
          rounds = h.rounds ∙ sym (ap (λ p. with_stage m p (rounds_after m s k)) e);
        } in
        let leads : went.Ended ending ≡ step_to (run_after m s (suc k)) = ap (λ x. went.Ended x) ends ∙ sym (ap (λ p. step_to p) more) in
        record { stands = rw add-one here; step = rw add-one leads }

-- ---- two promises of one answer

pub ok_both : {T F P Q R : Type 0} (r : Result T F) → (P → Q → R) → OnOk r P → OnOk r Q → OnOk r R
ok_both (Ok x) f p q = f p q
ok_both (Err e) f p q = tt

-- ---- moments that pass within a tick

-- a moment led from one state to another
pub record Steps {A : Type 0} (m : Meaning A) (w x : SimParts A) (to : Step) : Type 0 where
  pub stands : (s : SetupParts A) (k : ℕ) → StandsFor m s k w → StandsFor m s (k + 1) x
  pub step : (s : SetupParts A) (k : ℕ) → StandsFor m s k w → to ≡ step_to (run_after m s (k + 1))
  pub leads : (at : Moment) → IsOn at w.position → LeadsTo at to x.position
  pub parameters : x.world.one.parameters ≡ w.world.one.parameters
  pub given : x.log.given ≡ w.log.given
  pub keeps : x.log.keeps ≡ w.log.keeps
  pub ended : (e : Ending) → w.position ≡ position.Ended e → to ≡ went.Ended e
  pub rested : (e : Ending) → w.position ≡ position.Ended e → x ≡ w
  pub kept : w.position ≡ position.Lost → ⊥

abbrev good : {F : Type 0} → Step → Result Step F
good to = Ok to

-- ... where a call says so that answered the step
pub steps_by : {A S F : Type 0} (m : Meaning A) (keeps : S → ActorId → ℕ → Bool) (w x : SievedSim A S) (said to : Step) → said ≡ to
    → ((s : SetupParts A) (k : ℕ) → StandsFor m s k (sim_of keeps w) → StandsFor m s (k + 1) (sim_of keeps x))
    → ((s : SetupParts A) (k : ℕ) → StandsFor m s k (sim_of keeps w) → said ≡ step_to (run_after m s (k + 1)))
    → ((at : Moment) → IsOn at w.position → LeadsTo at said x.position)
    → x.world.one.parameters ≡ w.world.one.parameters → x.log.given ≡ w.log.given → keeps x.log.sieve ≡ keeps w.log.sieve
    → ((e : Ending) → w.position ≡ position.Ended e → (good {F = F} said ≡ Ok (went.Ended e)) × (x ≡ w))
    → (w.position ≡ position.Lost → is_err (good {F = F} said) ≡ true) → Steps m (sim_of keeps w) (sim_of keeps x) to
steps_by {A} {S} {F} m keeps w x said to same stands step leads parameters given kept ended lost =
    let told : Steps m (sim_of keeps w) (sim_of keeps x) said = record {
      stands = stands;
      step = step;
      leads = leads;
      parameters = parameters;
      given = given;
      keeps = kept;
      ended = λ e over. let same : good {F = F} said ≡ Ok (went.Ended e) = (ended e over).0 in cc;
      rested = λ e over. ap (sim_of keeps) (ended e over).1;
      kept = λ gone. let clash : false ≡ true = lost gone in cc;
    } in
    subst (λ t. Steps m (sim_of keeps w) (sim_of keeps x) t) same told

-- so many moments of the tick were closed, and the next one is in it too
pub record Passed {A : Type 0} (m : Meaning A) (s : SetupParts A) (k : ℕ) (w : SimParts A) : Type 0 where
  pub moments : ℕ
  pub within : (i : ℕ) → 1 ≤ i → i ≤ moments → IsInTick (run_after m s (k + i))
  pub stands : StandsFor m s (k + moments) w

-- what holds while moments of one tick pass
pub record Passes {A : Type 0} (m : Meaning A) (v w : SimParts A) : Type 0 where
  pub stands : (s : SetupParts A) (k : ℕ) → StandsFor m s k v → Passed m s k w
  pub given : w.log.given ≡ v.log.given
  pub keeps : w.log.keeps ≡ v.log.keeps
  pub ended : (e : Ending) → v.position ≡ position.Ended e → w ≡ v
  pub lost : v.position ≡ position.Lost → w.position ≡ position.Lost

pub none_passed : {A : Type 0} (m : Meaning A) (v : SimParts A) → Passes m v v
none_passed {A} m v = record {
  stands = λ s k h.
      let same : k ≡ k + 0 = omega arith in
      record { moments = 0; within = λ i some few. absurd (omega arith); stands = subst (λ n. StandsFor m s n v) same h };
  given = refl;
  keeps = refl;
  ended = λ e h. refl;
  lost = λ h. h;
}

one_passed : {A : Type 0} (m : Meaning A) (s : SetupParts A) (k : ℕ) (w x : SimParts A) → Steps m w x went.NextDiasca → Passed m s k w → Passed m s k x
one_passed {A} m s k w x one h =
    let next : (k + h.moments) + 1 ≡ k + (h.moments + 1) = omega arith in
    let last : IsInTick (run_after m s (k + (h.moments + 1))) =
    subst (λ n. IsInTick (run_after m s n)) next (sym (one.step s (k + h.moments) h.stands)) in
    record {
      moments = h.moments + 1;
      within = λ i some few. elim (cases_eq i (h.moments + 1)) [
        | inl here ↦ subst (λ n. IsInTick (run_after m s (k + n))) (sym here) last
        | inr before ↦ h.within i some (omega arith)
      ];
      stands = subst (λ n. StandsFor m s n x) next (one.stands s (k + h.moments) h.stands);
    }

pub more_passed : {A : Type 0} (m : Meaning A) (v w x : SimParts A) → Steps m w x went.NextDiasca → Passes m v w → Passes m v x
more_passed {A} m v w x one h = record {
  stands = λ s k at. one_passed m s k w x one (h.stands s k at);
  given = one.given ∙ h.given;
  keeps = one.keeps ∙ h.keeps;
  ended = λ e over.
      let stays : w.position ≡ position.Ended e = ap (λ (y : SimParts A). y.position) (h.ended e over) ∙ over in
      absurd (let clash : went.NextDiasca ≡ went.Ended e = one.ended e stays in cc);
  lost = λ gone. absurd (one.kept (h.lost gone));
}

-- the tick ends with a moment that leads elsewhere
pub tick_passed : {A : Type 0} (m : Meaning A) (v w x : SimParts A) (to : Step) → (to ≡ went.NextDiasca → ⊥) → Steps m w x to → Passes m v w
    → (s : SetupParts A) (k : ℕ) → StandsFor m s k v → (j : ℕ) × PassesTick m s k j × StandsFor m s (k + j) x
tick_passed {A} m v w x to other one h s k at =
    let p = h.stands s k at in
    let next : (k + p.moments) + 1 ≡ k + (p.moments + 1) = omega arith in
    let leads : to ≡ step_to (run_after m s (k + (p.moments + 1))) =
    subst (λ n. to ≡ step_to (run_after m s n)) next (one.step s (k + p.moments) p.stands) in
    let passes : PassesTick m s k (p.moments + 1) = record {
      some = omega arith;
      within = λ i some few. p.within i some (omega arith);
      left = λ same. other (leads ∙ same);
    } in
    (p.moments + 1, passes, subst (λ n. StandsFor m s n x) next (one.stands s (k + p.moments) p.stands))

-- ---- where a tick leads to

pub to_tick : {A : Type 0} (m : Meaning A) (w x : SimParts A) → Steps m w x went.NextTick → (at : Moment) × (x.position ≡ position.Before at)
to_tick {A} m w x one = told w.position refl
  where
    told : (p : Position) → w.position ≡ p → (at : Moment) × (x.position ≡ position.Before at)
    told (position.Before at) e = let to = one.leads at (subst (λ p. IsOn at p) (sym e) refl) in (record { tick = to.0; diasca = 0 }, to.1)
    told (position.Within at) e = let to = one.leads at (subst (λ p. IsOn at p) (sym e) refl) in (record { tick = to.0; diasca = 0 }, to.1)
    told (position.Ended ending) e = absurd (let clash : went.NextTick ≡ went.Ended ending = one.ended ending e in cc)
    told position.Lost e = absurd (one.kept e)

pub to_end : {A : Type 0} (m : Meaning A) (w x : SimParts A) (ending : Ending) → Steps m w x (went.Ended ending) → x.position ≡ position.Ended ending
to_end {A} m w x ending one = told w.position refl
  where
    told : (p : Position) → w.position ≡ p → x.position ≡ position.Ended ending
    told (position.Before at) e = one.leads at (subst (λ p. IsOn at p) (sym e) refl)
    told (position.Within at) e = one.leads at (subst (λ p. IsOn at p) (sym e) refl)
    told (position.Ended over) e =
        let same : went.Ended ending ≡ went.Ended over = one.ended over e in
        let ends : over ≡ ending = cc in
        ap (λ (y : SimParts A). y.position) (one.rested over e) ∙ e ∙ ap (λ z. position.Ended z) ends
    told position.Lost e = absurd (one.kept e)

pub goes_on : {A : Type 0} (x : SimParts A) (p : Stage A) (at : Moment) → x.position ≡ position.Before at → IsAt x p → progress.Going ≡ progress_to p
goes_on x (Going u) at stood h = refl
goes_on x (Over e) at stood h = absurd (let clash : position.Before at ≡ position.Ended e.ending = sym stood ∙ h.position in cc)

pub ends : {A : Type 0} (x : SimParts A) (p : Stage A) (ending : Ending) → x.position ≡ position.Ended ending → IsAt x p → progress.Ended ending ≡ progress_to p
ends x (Going u) ending stood h = absurd (let clash : position.Ended ending ≡ position.Before u.next = sym stood ∙ h.position in cc)
ends x (Over e) ending stood h =
    let same : position.Ended ending ≡ position.Ended e.ending = sym stood ∙ h.position in
    let one : ending ≡ e.ending = cc in
    ap (λ z. progress.Ended z) one

-- ---- how many diascas a tick may still have

abbrev pub left_in_tick : ℕ → Position → ℕ
left_in_tick limit (position.Before at) = limit - at.diasca
left_in_tick limit (position.Within at) = limit - at.diasca
left_in_tick limit (position.Ended ending) = 0
left_in_tick limit position.Lost = 0

pub fewer_left : {A : Type 0} (m : Meaning A) (w x : SimParts A) (l : LogParts) (leaves : ℕ) → Steps m w x went.NextDiasca
    → IsSoundAt w.world l leaves w.position
    → left_in_tick x.world.one.parameters.diasca_limit x.position < left_in_tick w.world.one.parameters.diasca_limit w.position
fewer_left {A} m w x l leaves one sound =
    rw one.parameters (told w.position refl sound)
  where
    next : (at : Moment) → x.position ≡ position.Before (record { tick = at.tick; diasca = at.diasca + 1 })
        → at.diasca < w.world.one.parameters.diasca_limit
        → left_in_tick w.world.one.parameters.diasca_limit x.position < w.world.one.parameters.diasca_limit - at.diasca
    next at e low = rw e (omega arith)

    told : (p : Position) → w.position ≡ p → IsSoundAt w.world l leaves p
        → left_in_tick w.world.one.parameters.diasca_limit x.position < left_in_tick w.world.one.parameters.diasca_limit p
    told (position.Before at) e h = next at (one.leads at (subst (λ p. IsOn at p) (sym e) refl)) h.due.limits.diasca
    told (position.Within at) e h = next at (one.leads at (subst (λ p. IsOn at p) (sym e) refl)) h.due.limits.diasca
    told (position.Ended ending) e h = absurd (let clash : went.NextDiasca ≡ went.Ended ending = one.ended ending e in cc)
    told position.Lost e h = absurd (one.kept e)

-- ---- ticks that pass within a run

-- it stands for the run after some moments
pub record StandsSomewhere {A : Type 0} (m : Meaning A) (s : SetupParts A) (v : SimParts A) : Type 0 where
  pub moments : ℕ
  pub stands : StandsFor m s moments v

pub tick_more : {A : Type 0} (m : Meaning A) (s : SetupParts A) (k : ℕ) (x : SimParts A) → (j : ℕ) × PassesTick m s k j × StandsFor m s (k + j) x
    → StandsSomewhere m s x
tick_more m s k x h = record { moments = k + h.0; stands = h.2 }

-- each moment of a run is later than the one before
rank_rises : {A : Type 0} (m : Meaning A) (s : SetupParts A) (k j : ℕ) (u w : Underway A) → IsSetup s → run_after m s k ≡ Going u
    → run_after m s (k + j) ≡ Going w → rank (parameters_of s) u.next + j ≤ rank (parameters_of s) w.next
unfolding run_from go_on
rank_rises {A} m s k zero u w setup here there =
    let back : k + 0 ≡ k = omega arith in
    let one : Going u ≡ Going w = sym here ∙ sym (ap (λ n. run_after m s n) back) ∙ there in
    let same : u ≡ w = cc in
    let rank_same : rank (parameters_of s) u.next ≡ rank (parameters_of s) w.next = ap (λ (x : Underway A). rank (parameters_of s) x.next) same in
    omega arith
rank_rises {A} m s k (suc j) u w setup here there = told (run_after m s (k + j)) refl (λ x e. rank_rises m s k j u x setup here e)
  where
    told : (p : Stage A) → run_after m s (k + j) ≡ p
        → ((x : Underway A) → run_after m s (k + j) ≡ Going x → rank (parameters_of s) u.next + j ≤ rank (parameters_of s) x.next)
        → rank (parameters_of s) u.next + suc j ≤ rank (parameters_of s) w.next
    told (Going x) e before =
        let more : k + suc j ≡ suc (k + j) = omega arith in
        let steps : step m x ≡ Going w = sym (ap (λ p. go_on m p) e) ∙ sym (ap (λ n. run_after m s n) more) ∙ there in
        let fine = subst (λ p. FineAt s p (k + j)) e (fine_after m s setup (k + j)) in
        let rises = fine_rank m s x w (k + j) fine steps in
        omega (arith, rises, before x e)
    told (Over e) is before =
        let more : k + suc j ≡ suc (k + j) = omega arith in
        absurd (let clash : Over e ≡ Going w = sym (ap (λ p. go_on m p) is) ∙ sym (ap (λ n. run_after m s n) more) ∙ there in cc)

-- how many moments a run may still have
abbrev pub left_in_run : {A : Type 0} → SetupParts A → Position → ℕ
left_in_run s (position.Before at) = most_moments s - rank (parameters_of s) at
left_in_run s (position.Within at) = 0
left_in_run s (position.Ended ending) = 0
left_in_run s position.Lost = 0

later_left : {A : Type 0} (m : Meaning A) (s : SetupParts A) (k j : ℕ) (u w : Underway A) → IsSetup s → 1 ≤ j → run_after m s k ≡ Going u
    → run_after m s (k + j) ≡ Going w → left_in_run s (position.Before w.next) < left_in_run s (position.Before u.next)
later_left m s k j u w setup some here there =
    let fine = subst (λ p. FineAt s p k) here (fine_after m s setup k) in
    let below = fine_below s u k fine in
    let rises = rank_rises m s k j u w setup here there in
    omega (arith, below, rises)

-- a tick after which the run goes on leaves fewer of them
pub fewer_in_run : {A : Type 0} (m : Meaning A) (s : SetupParts A) (k : ℕ) (v x : SimParts A) (to : Progress) → StandsFor m s k v
    → (to ≡ progress.Going) → ((e : Ending) → v.position ≡ position.Ended e → to ≡ progress.Ended e)
    → ((n : ℕ) → StandsFor m s n x → to ≡ progress_to (run_after m s n))
    → (j : ℕ) × PassesTick m s k j × StandsFor m s (k + j) x → left_in_run s x.position < left_in_run s v.position
fewer_in_run {A} m s k v x to at going ended leads passed =
    told (run_after m s k) (run_after m s (k + passed.0)) refl refl at.stage passed.2.stage (sym going ∙ leads (k + passed.0) passed.2)
  where
    told : (p q : Stage A) → run_after m s k ≡ p → run_after m s (k + passed.0) ≡ q → IsAt v p → IsAt x q → progress.Going ≡ progress_to q
        → left_in_run s x.position < left_in_run s v.position
    told (Going u) (Going w) here there old new goes =
        rw (old.position, new.position) (later_left m s k passed.0 u w at.setup passed.1.some here there)
    told (Going u) (Over e) here there old new goes = absurd (cc)
    told (Over e) q here there old new goes =
        absurd (let clash : progress.Going ≡ progress.Ended e.ending = sym going ∙ ended e.ending old.position in cc)

-- ... and one that answers the end has come to it
pub has_come_to_end : {A : Type 0} (m : Meaning A) (s : SetupParts A) (n : ℕ) (x : SimParts A) (ending : Ending) → StandsFor m s n x
    → progress.Ended ending ≡ progress_to (run_after m s n) → x.position ≡ position.Ended ending
has_come_to_end {A} m s n x ending at leads = told (run_after m s n) at.stage leads
  where
    told : (p : Stage A) → IsAt x p → progress.Ended ending ≡ progress_to p → x.position ≡ position.Ended ending
    told (Going u) h to = absurd (cc)
    told (Over e) h to = let same : e.ending ≡ ending = cc in h.position ∙ ap (λ z. position.Ended z) same
