-- The letters that reports send from manager to manager.
use Rattle.std.specs.Prelude.{ℕ, Bool, nat_eq, cond, List, is_none, sum_by}
use Rattle.std.specs.List.{filter, flat_map}
use Rattle.actor_trait.specs.Faults.{fault_shown}
use Rattle.actor_trait.specs.Meaning.{Meaning}
use Rattle.actor_trait.specs.declared.letter.Letter.{Letter}
use Rattle.actor_trait.specs.declared.letter.Parcel.{Parcel}
use Rattle.actor_trait.specs.declared.outcome.Outcome.{Outcome}
use Rattle.quiet_core.specs.Rows.{bit}
use Rattle.sim_model.specs.Moment.{sends_of}
use Rattle.sim_model.specs.declared.report.Report.{Report}
use Rattle.work_claims.specs.Placed.{Placed}

-- an outcome shows no fault that can be seen from it alone. The letters of one that does aren't sent
abbrev pub is_calm : {A : Type 0} → Meaning A → Placed A → Outcome A → Bool
is_calm m p o = is_none (fault_shown m o p.at)

-- how many of these go to the actors of a manager
abbrev pub parcels_to : {A : Type 0} → Placed A → ℕ → List Parcel → ℕ
parcels_to p n parcels = sum_by (λ l. bit (nat_eq (p.route l.to) n)) parcels

-- how many letters an outcome sends to the actors of a manager
abbrev pub sends_to : {A : Type 0} → Meaning A → Placed A → ℕ → Outcome A → ℕ
sends_to m p n o = cond (is_calm m p o) (parcels_to p n o.sends) 0

-- how many letters a report sends from the actors of k to those of n
abbrev pub sends_between : {A : Type 0} → Meaning A → Placed A → ℕ → ℕ → Report A → ℕ
sends_between m p k n r = cond (nat_eq (p.home r.id) k) (sends_to m p n r.outcome) 0

abbrev pub letters_between : {A : Type 0} → Meaning A → Placed A → ℕ → ℕ → List (Report A) → ℕ
letters_between m p k n reports = sum_by (sends_between m p k n) reports

-- all letters that the reports send
abbrev pub letters_sent : {A : Type 0} → Meaning A → Placed A → List (Report A) → List Letter
letters_sent m p reports = flat_map sends_of (filter (λ r. is_calm m p r.outcome) reports)
