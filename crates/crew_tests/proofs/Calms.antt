-- What the close of a moment asks of its harvest.
use Rattle.std.proofs.Common.{◌≡◌, ◌≢◌, ℕ, ◌+◌, ◌<◌, Bool, true, false, true≢false, List, [], ◌∷◌, length, map, Option, Some, None, ap, refl, sym, ◌∙◌, is_none}
use Rattle.std.specs.List.{All, filter, flat_map}
use Rattle.std.specs.List.Sorted.{IsStrictlyIncreasing}
use Rattle.std.specs.Option.{option_map, option_or}
use Rattle.std.proofs.lemmas.List.Elements.{All-nil, All-cons, All-head, All-tail}
use Rattle.sim_base.specs.declared.ids.ActorId.{ActorId}
use Rattle.sim_base.specs.declared.moment.Moment.{Moment}
use Rattle.actor_trait.specs.Faults.{asks_past, fault_among, gives_too_many, samples_unknown, when}
use Rattle.actor_trait.specs.Meaning.{IsLawful, Meaning}
use Rattle.actor_trait.specs.declared.letter.Letter.{Letter}
use Rattle.actor_lifecycle.specs.Settling.{settled, settled_by}
use Rattle.sim_model.specs.Births.{bears_past}
use Rattle.sim_model.specs.Moment.{fault_of_moment, first_fault, next_id, sends_of}
use Rattle.sim_model.specs.Whole.{IsWhole}
use Rattle.sim_model.specs.declared.births.Newborn.{Newborn}
use Rattle.sim_model.specs.declared.report.Fault.{Fault}
use Rattle.sim_model.specs.declared.report.Report.{Report}
use Rattle.sim_model.specs.declared.settled.Settled.{Settled}
use Rattle.sim_model.specs.declared.settled.Settled.TheVariants as becomes
use Rattle.sim_model.proofs.Acting.{are_reports}
use Rattle.sim_model.proofs.Ascending.{pairs_map, to_increasing}
use Rattle.local_manager.specs.Views.{WorldParts, reports_now, with_letters}
use Rattle.work_claims.specs.Letters.{is_calm, letters_sent}
use Rattle.local_manager.specs.declared.phase.Phase.{Phase}
use Rattle.local_manager.specs.declared.phase.Phase.TheVariants as phase
use Rattle.work_claims.specs.Placed.{Placed}
use Rattle.work_claims.specs.Worlds.{is_entered}

neither : {X : Type 0} (o p : Option X) → option_or o p ≡ None → (o ≡ None) × (p ≡ None)
neither None p e = (refl, e)
neither (Some x) p e = cc

not_mapped : {X Y : Type 0} (f : X → Y) (o : Option X) → option_map f o ≡ None → o ≡ None
not_mapped f None e = refl
not_mapped f (Some x) e = cc

-- where a birth past the last number isn't asked for either
unasked : (a b c d : Option ℕ) (past : Bool) → option_or a (option_or b (option_or c (option_or (when past 902) d))) ≡ None
    → option_or a (option_or b (option_or c (option_or (when false 902) d))) ≡ None
unasked None None None d true e = cc
unasked None None None d false e = e
unasked None None (Some x) d past e = cc
unasked None (Some x) c d past e = cc
unasked (Some x) b c d past e = cc

module _ {A : Type 0} (m : Meaning A) (p : Placed A) (max : ℕ) where
  calm_one : (r : Report A) (past : Bool) → fault_among m r.outcome p.at past ≡ None → is_calm m p r.outcome ≡ true
  calm_one r past e = ap is_none (unasked r.outcome.fault (when (asks_past p.at.tick r.outcome.ticks) 900) (when (gives_too_many r.outcome) 901)
      (when (samples_unknown (length (m.probes r.outcome.state)) r.outcome.samples) 903) past e)

  calm_all : (next : ℕ) (rs : List (Report A)) → first_fault m max next p.at rs ≡ None → All (λ r. is_calm m p r.outcome ≡ true) rs
  calm_all next [] e = All-nil _
  calm_all next (r ∷ rs) e =
      let past = bears_past max next (length r.outcome.births) in
      let shown = option_map (λ code. record { actor = r.id; code = code }) (fault_among m r.outcome p.at past) in
      let parts = neither shown (first_fault m max (next + length r.outcome.births) p.at rs) e in
      All-cons (λ q. is_calm m p q.outcome ≡ true) r rs
      (calm_one r past (not_mapped (λ code. record { actor = r.id; code = code }) (fault_among m r.outcome p.at past) parts.0))
      (calm_all (next + length r.outcome.births) rs parts.1)

all_kept : {X : Type 0} (q : X → Bool) (xs : List X) → All (λ x. q x ≡ true) xs → filter q xs ≡ xs
all_kept q [] h = refl
all_kept q (x ∷ xs) h =
    rw (All-head (λ y. q y ≡ true) x xs h) (ap (λ l. x ∷ l) (all_kept q xs (All-tail (λ y. q y ≡ true) x xs h)))

-- where nobody shows a fault, all letters are sent
pub all_sent : {A : Type 0} (m : Meaning A) (p : Placed A) (max next : ℕ) (rs : List (Report A)) → first_fault m max next p.at rs ≡ None
    → letters_sent m p rs ≡ flat_map sends_of rs
all_sent m p max next rs e = ap (flat_map sends_of) (all_kept (λ r. is_calm m p r.outcome) rs (calm_all m p max next rs e))

-- a moment that is settled by no fault shows none
none_by : {A : Type 0} (m : Meaning A) (next : ℕ) (rs : List (Report A)) (o : Option Fault) (kept : List (Report A)) (born : List (Newborn A))
    (letters : List Letter) (gone : List ActorId) → becomes.Settled kept born letters gone ≡ settled_by m next rs o → o ≡ None
none_by m next rs None kept born letters gone e = refl
none_by m next rs (Some fault) kept born letters gone e = cc

-- what became of the moment that a world has entered
module _ {A : Type 0} (m : Meaning A) (v : WorldParts A) (max next : ℕ) (at : Moment) (rs : List (Report A)) (s : Settled A)
    (is : s ≡ settled m max next at rs) (most : max ≡ v.one.parameters.max_actors) (numbered : next ≡ next_id v.one) (now : at ≡ v.moment)
    (are : rs ≡ reports_now m v) where
  settled_now : s ≡ settled m v.one.parameters.max_actors (next_id v.one) v.moment (reports_now m v)
  settled_now = is ∙ ap (λ n. settled m n next at rs) most ∙ ap (λ n. settled m v.one.parameters.max_actors n at rs) numbered
      ∙ ap (λ t. settled m v.one.parameters.max_actors (next_id v.one) t rs) now
      ∙ ap (λ l. settled m v.one.parameters.max_actors (next_id v.one) v.moment l) are

  module _ (kept : List (Report A)) (born : List (Newborn A)) (letters : List Letter) (gone : List ActorId)
      (calm : s ≡ becomes.Settled kept born letters gone) where
    pub none_shown : fault_of_moment m v.one v.moment (reports_now m v) ≡ None
    none_shown = none_by m (next_id v.one) (reports_now m v) (fault_of_moment m v.one v.moment (reports_now m v)) kept born letters gone
        (sym calm ∙ settled_now)

    pub settled_calmly : s ≡ settled_by m (next_id v.one) (reports_now m v) None
    settled_calmly = settled_now ∙ ap (settled_by m (next_id v.one) (reports_now m v)) none_shown

pub not_torn : (q : Phase) → q ≡ phase.Entered → q ≢ phase.Torn
not_torn q entered torn = true≢false (sym (ap is_entered entered) ∙ ap is_entered torn)

numbers : {A : Type 0} (rs : List (Report A)) → map (λ a. a.0) (map (λ r. r.id) rs) ≡ map (λ r. r.id.0) rs
numbers [] = refl
numbers (r ∷ rs) = ap (λ l. r.id.0 ∷ l) (numbers rs)

-- the reports of a moment ascend
pub reports_increase : {A : Type 0} (m : Meaning A) → IsLawful m → (w : WorldParts A) → IsWhole m (with_letters w.one [])
    → IsStrictlyIncreasing (map (λ r. r.id.0) (reports_now m w))
reports_increase {A} m law w whole =
    let rs : List (Report A) = reports_now m w in
    rw (← numbers rs) (to_increasing (map (λ r. r.id) rs)
    (pairs_map (λ a b. a.0 < b.0) (λ r. r.id) rs (are_reports m law w.one w.moment whole.scheduled whole.cast.fits).ascend))
