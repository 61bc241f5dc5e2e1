-- What holds of each world that a run comes to.
use Rattle.std.specs.Prelude.{◌≡◌, ℕ, ◌+◌, ◌-◌, ◌<◌, ◌≤◌, true, List, [], ◌∷◌, length, map, slice_get, Option, Some, None}
use Rattle.std.specs.List.{All, AllPairs, AllZip}
use Rattle.sim_base.specs.declared.ids.ActorId.{ActorId}
use Rattle.sim_base.specs.declared.moment.Moment.{Moment}
use Rattle.sim_base.specs.declared.moment.Row.{Row}
use Rattle.actor_trait.specs.InboxOrder.{AreDistinct, AreUrgent}
use Rattle.actor_trait.specs.Meaning.{Meaning}
use Rattle.actor_trait.specs.declared.letter.Letter.{Letter}
use Rattle.agenda.specs.Dues.{Rises}
use Rattle.agenda.specs.declared.due.Due.{Due}
use Rattle.sim_model.specs.Cast.{kind_of}
use Rattle.sim_model.specs.Moment.{enter, is_alive, reports}
use Rattle.sim_model.specs.Run.{run_after}
use Rattle.sim_model.specs.SetupParts.{SetupParts}
use Rattle.sim_model.specs.Setups.{Ascend}
use Rattle.sim_model.specs.declared.cast.Member.{Member}
use Rattle.sim_model.specs.declared.parameters.Parameters.{Parameters}
use Rattle.sim_model.specs.declared.stage.Stage.{Stage}
use Rattle.sim_model.specs.declared.stage.Stage.TheVariants.{Going, Over}
use Rattle.sim_model.specs.declared.world.WorldState.{WorldState}

-- the ranges of the numbers; the urgent are among the actors so far
pub record AreParameters {A : Type 0} (states : List (Option A)) (p : Parameters) : Type 0 where
  pub seed : p.seed ≤ 18446744073709551615
  pub last_tick : p.last_tick ≤ 1000000000
  pub some_diasca : 1 ≤ p.diasca_limit
  pub diasca_limit : p.diasca_limit ≤ 65535
  pub max_actors : p.max_actors ≤ 1000000
  pub count : length states ≤ p.max_actors
  pub urgent : AreUrgent p.urgent
  pub known : All (λ id. (1 ≤ id.0) × (id.0 ≤ length states)) p.urgent

-- ascending, each once, and each alive
pub record AreLiving {A : Type 0} (states : List (Option A)) (ids : List ActorId) : Type 0 where
  pub ascend : Ascend ids
  pub live : All (λ id. is_alive states id ≡ true) ids

-- ascending by tick and then by actor, each once, and each of a living actor
pub record IsAgendaOf {A : Type 0} (states : List (Option A)) (agenda : List Due) : Type 0 where
  pub rises : Rises agenda
  pub live : All (λ d. is_alive states d.actor ≡ true) agenda

-- letters to the living, no two of which agree in recipient, sender and serial
pub record AreLettersTo {A : Type 0} (states : List (Option A)) (letters : List Letter) : Type 0 where
  pub live : All (λ l. is_alive states l.to ≡ true) letters
  pub distinct : AreDistinct letters

-- each has the next number, from this one on
abbrev pub Numbered : ℕ → List ActorId → Type 0
Numbered n [] = Unit {0}
Numbered n (id ∷ ids) = (id.0 ≡ n) × Numbered (n + 1) ids

-- a living actor has the kind and the probes of its entry
abbrev pub Fits : {A : Type 0} → Meaning A → Member → Option A → Type 0
Fits m c None = Unit {0}
Fits m c (Some a) = c.kind ≡ kind_of m a

-- an entry for each number so far, in order
pub record IsCastOf {A : Type 0} (m : Meaning A) (states : List (Option A)) (cast : List Member) : Type 0 where
  pub count : length cast ≡ length states
  pub numbered : Numbered 1 (map (λ c. c.id) cast)
  pub fits : AllZip (Fits m) cast states

pub record IsWhole {A : Type 0} (m : Meaning A) (w : WorldState A) : Type 0 where
  pub parameters : AreParameters w.states w.parameters
  pub scheduled : AreLiving w.states w.scheduled
  pub agenda : IsAgendaOf w.states w.agenda
  pub letters : AreLettersTo w.states w.letters
  pub newborn : AreLiving w.states w.newborn
  pub cast : IsCastOf m w.states w.cast

-- each that is scheduled has a report, in the same order
abbrev pub EachReports : {A : Type 0} → Meaning A → WorldState A → Moment → Type 0
EachReports m entered at = map (λ r. r.id) (reports m entered at) ≡ entered.scheduled

-- the world before a moment and once it is entered, where each that is scheduled acts; or the world at which the run ended
abbrev pub IsWholeAt : {A : Type 0} → Meaning A → Stage A → Type 0
IsWholeAt m (Going u) =
    let entered = enter u.world u.next in
    IsWhole m u.world × IsWhole m entered × EachReports m entered u.next
IsWholeAt m (Over e) = IsWhole m e.world

-- of the run after so many moments
abbrev pub IsWholeAfter : {A : Type 0} → Meaning A → SetupParts A → ℕ → Type 0
IsWholeAfter m s k = IsWholeAt m (run_after m s k)

-- ---- the rows so far

-- by tick, then by diasca
abbrev pub IsEarlier : Moment → Moment → Type 0
IsEarlier a b = (a.tick ≤ b.tick) × (a.tick ≡ b.tick → a.diasca < b.diasca)

abbrev pub IsNotLater : Moment → Moment → Type 0
IsNotLater a b = (a.tick ≤ b.tick) × (a.tick ≡ b.tick → a.diasca ≤ b.diasca)

-- by moment, then by actor
abbrev pub RowOrder : Row → Row → Type 0
RowOrder r q = IsNotLater r.at q.at × (r.at ≡ q.at → r.actor.0 ≤ q.actor.0)

-- of one of the probes of somebody in the cast
abbrev pub IsSampled : List Member → Row → Type 0
IsSampled cast row = (c : Member) × (slice_get cast (row.actor.0 - 1) ≡ Some c) × (1 ≤ row.actor.0) × (row.probe < length c.kind.probes)

pub record AreRows (cast : List Member) (rows : List Row) : Type 0 where
  pub ordered : AllPairs RowOrder rows
  pub sampled : All (IsSampled cast) rows

-- none later than the moment entered last, of which there is none before the first
abbrev pub AreUpTo : Option Moment → List Row → Type 0
AreUpTo None rows = rows ≡ []
AreUpTo (Some last) rows = All (λ r. IsNotLater r.at last) rows

-- the next moment comes after the one entered last
abbrev pub IsNext : Option Moment → Moment → Type 0
IsNext None next = Unit {0}
IsNext (Some last) next = IsEarlier last next

abbrev pub AreRowsAt : {A : Type 0} → Stage A → Type 0
AreRowsAt (Going u) = AreRows u.world.cast u.rows × AreUpTo u.last u.rows × IsNext u.last u.next
AreRowsAt (Over e) = AreRows e.world.cast e.rows × AreUpTo (Some e.last) e.rows

abbrev pub AreRowsAfter : {A : Type 0} → Meaning A → SetupParts A → ℕ → Type 0
AreRowsAfter m s k = AreRowsAt (run_after m s k)
