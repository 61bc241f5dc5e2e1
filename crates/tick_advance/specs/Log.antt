-- The rows of a run, as they are kept while it goes on.
use Rattle.std.specs.Prelude.{◌≡◌, ◌<◌, ◌≤◌, ℕ, Bool, List, [], ◌++◌, length, replicate}
use Rattle.std.specs.List.{All}
use Rattle.sim_base.specs.declared.ids.ActorId.{ActorId}
use Rattle.sim_base.specs.declared.moment.Moment.{Moment}
use Rattle.sim_base.specs.declared.moment.Row.{Row}
use Rattle.probes.specs.Kept.{kept_rows}
use Rattle.probes.specs.LiveOrder.{IsInLiveOrder}
use Rattle.sim_model.specs.Whole.{IsEarlier, IsNotLater}

-- the rows that are merged, the buffers of the managers, whose rows come behind them, how many were given out, and which are kept
pub record LogParts : Type 0 where
  pub merged : List Row
  pub buffers : List (List Row)
  pub given : ℕ
  pub keeps : ActorId → ℕ → Bool

-- the same, with the sieve that says which are kept
pub record SievedLog (S : Type 0) : Type 0 where
  pub merged : List Row
  pub buffers : List (List Row)
  pub given : ℕ
  pub sieve : S

abbrev pub log_of : {S : Type 0} → (S → ActorId → ℕ → Bool) → SievedLog S → LogParts
log_of keeps l = record { merged = l.merged; buffers = l.buffers; given = l.given; keeps = keeps l.sieve }

abbrev pub no_log : ℕ → (ActorId → ℕ → Bool) → LogParts
no_log managers keeps = record { merged = []; buffers = replicate managers []; given = 0; keeps = keeps }

-- those of the rows that are kept
abbrev pub kept : LogParts → List Row → List Row
kept l rows = kept_rows l.keeps rows

-- these are all rows of the run. Those that are kept are those merged, and behind them those of the buffers in live order
pub record HasRows (l : LogParts) (rows : List Row) : Type 0 where
  pub pending : List Row
  pub all : kept l rows ≡ l.merged ++ pending
  pub live : IsInLiveOrder l.buffers pending
  pub given : l.given ≤ length l.merged

-- each row is of an earlier moment than this one
abbrev pub EndsBefore : LogParts → Moment → Type 0
EndsBefore l at = All (λ b. All (λ r. IsEarlier r.at at) b) l.buffers

-- a row is of an earlier moment, or of this one and an actor whose number is less
pub record IsBelow (at : Moment) (limit : ℕ) (r : Row) : Type 0 where
  pub moment : IsNotLater r.at at
  pub actor : r.at.tick ≡ at.tick → r.at.diasca ≡ at.diasca → r.actor.0 < limit

-- so is each row of the buffers
abbrev pub EndsBelow : LogParts → Moment → ℕ → Type 0
EndsBelow l at limit = All (λ b. All (IsBelow at limit) b) l.buffers
