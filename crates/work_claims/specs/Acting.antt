-- What a hand does in its act phase.
use Rattle.std.specs.Prelude.{◌≡◌, ◌≢◌, ℕ, ◌+◌, ◌-◌, ◌<◌, ◌≤◌, true, false, nat_eq, get_or, Bool, List, sum_by, length, ◌⊎◌}
use Rattle.std.specs.List.{All}
use Rattle.sim_base.specs.declared.ids.ActorId.{ActorId}
use Rattle.actor_trait.specs.Meaning.{Meaning}
use Rattle.quiet_core.specs.Rows.{below, bit}
use Rattle.quiet_core.specs.Account.{Shape, scheduled, fresh, Account, mark, posts, has_met, opened, owing, entered, done}
use Rattle.quiescence.specs.Answers.{NoDuty}
use Rattle.sim_model.specs.Moment.{is_among}
use Rattle.sim_model.specs.declared.report.Report.{Report}
use Rattle.work_claims.specs.Letters.{letters_between}
use Rattle.work_claims.specs.Placed.{IsMeant, Placed, id_at, scheduled_at}

-- what no step of an act phase changes
pub record Keeps (a a' : Account) : Type 0 where
  pub weight : a'.weight ≡ a.weight
  pub collecting : a'.collecting ≡ a.collecting
  pub acked : a'.acked ≡ a.acked
  pub collected : a'.collected ≡ a.collected

-- nor what doesn't claim, raise or post
pub record Still (a a' : Account) : Type 0 where
  pub keeps : Keeps a a'
  pub exhausted : a'.exhausted ≡ a.exhausted
  pub posted : a'.posted ≡ a.posted
  pub known : a'.known ≡ a.known

-- all marks but that of (m, i) stay
abbrev pub Others : ℕ → ℕ → Account → Account → Type 0
Others m i a a' = (k j : ℕ) → (k ≢ m) ⊎ (j ≢ i) → mark a' k j ≡ mark a k j

-- the letters posted from m grew by these numbers, by the recipients' manager, and no others grew
pub record Grew (managers m : ℕ) (f : ℕ → ℕ) (a a' : Account) : Type 0 where
  pub here : (n : ℕ) → n < managers → posts a' m n ≡ posts a m n + f n
  pub apart : (k n : ℕ) → k ≢ m → posts a' k n ≡ posts a k n

-- of the letters of (m, i), those to managers below n are posted
pub record Publishing (m i total : ℕ) (f : ℕ → ℕ) (n : ℕ) (a a' : Account) : Type 0 where
  pub keeps : Keeps a a'
  pub exhausted : a'.exhausted ≡ a.exhausted
  pub duties : a'.duties ≡ a.duties
  pub others : Others m i a a'
  pub is_open : opened (mark a' m i) ≡ 1
  pub owed : owing (mark a' m i) + below f n ≡ total
  pub here : (j : ℕ) → j < n → posts a' m j ≡ posts a m j + f j
  pub later : (j : ℕ) → n ≤ j → posts a' m j ≡ posts a m j
  pub apart : (k j : ℕ) → k ≢ m → posts a' k j ≡ posts a k j

-- how many of the reports are an actor's
abbrev pub reports_of : {A : Type 0} → List (Report A) → ActorId → ℕ
reports_of reports id = sum_by (λ r. bit (nat_eq r.id.0 id.0)) reports

-- what the reports of a hand say of its account: there is one for each actor that it has done, each is what its actor's event means, all are
-- of scheduled actors, and their letters are posted, and no others
pub record Tells {A : Type 0} (m : Meaning A) (p : Placed A) (reports : List (Report A)) (a : Account) : Type 0 where
  pub once : (k i : ℕ) → k < p.managers → i < length (scheduled_at p k) → reports_of reports (id_at p k i) ≡ done (mark a k i)
  pub meant : All (IsMeant m p) reports
  pub scheduled : All (λ r. is_among p.world.scheduled r.id ≡ true) reports
  pub posted : (k n : ℕ) → k < p.managers → n < p.managers → posts a k n ≡ letters_between m p k n reports

-- nothing is open, and no duty is held
pub record AtRest (a : Account) : Type 0 where
  pub none_open : (m i : ℕ) → opened (mark a m i) ≡ 0
  pub no_duty : NoDuty a

-- the same but for (m, i), which is claimed
pub record OneOpen (m i : ℕ) (a : Account) : Type 0 where
  pub here : mark a m i ≡ fresh
  pub others : (k j : ℕ) → (k ≢ m) ⊎ (j ≢ i) → opened (mark a k j) ≡ 0
  pub no_duty : NoDuty a

-- how many scheduled actors of m the hand has not entered
abbrev pub frees : Shape → Account → ℕ → ℕ
frees t a m = below (λ i. 1 - entered (mark a m i)) (scheduled t m)

-- each manager was found exhausted, nothing is open, and no duty is held
pub record Ended (managers : ℕ) (a : Account) : Type 0 where
  pub met : (k : ℕ) → k < managers → has_met a k ≡ true
  pub rest : AtRest a

-- these flags tell at which managers the hand met the end
abbrev pub AreMet : ℕ → List Bool → Account → Type 0
AreMet managers flags a = (k : ℕ) → k < managers → get_or flags k false ≡ has_met a k

-- a hand that may begin an act phase: it has done nothing, and may claim
pub record IsNew (managers : ℕ) (a : Account) : Type 0 where
  pub claims : a.collecting ≡ false
  pub not_met : (k : ℕ) → has_met a k ≡ false
  pub rest : AtRest a
  pub none_done : (m i : ℕ) → done (mark a m i) ≡ 0
  pub none_posted : (m n : ℕ) → m < managers → n < managers → posts a m n ≡ 0
