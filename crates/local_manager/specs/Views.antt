-- A world kept by managers, seen as the one world.
use Rattle.std.specs.Prelude.{◌≡◌, ℕ, ◌+◌, ◌-◌, ◌^◌, min, true, if◌then◌else◌, List, [], ◌∷◌, length, slice_index_or}
use Rattle.std.specs.List.{All, flat_map, fold}
use Rattle.sim_base.specs.declared.ids.ActorId.{ActorId}
use Rattle.sim_base.specs.declared.moment.Moment.{Moment}
use Rattle.actor_trait.specs.InboxOrder.{Precedence, in_order, inbox_order}
use Rattle.actor_trait.specs.Meaning.{Meaning}
use Rattle.actor_trait.specs.declared.letter.Letter.{Letter}
use Rattle.agenda.specs.Dues.{without_actor}
use Rattle.inbox_order.specs.Inboxes.{AreInboxesOf, inbox_of}
use Rattle.inbox_store.specs.Letters.{Letters}
use Rattle.placement.specs.declared.policy.Policy.{Policy}
use Rattle.sim_model.specs.Births.{births_of_moment}
use Rattle.sim_model.specs.Moment.{ask_of, called, close, dead_among, enter, event_at, is_alive, letters_of, next_id, precedence_at, reports, retired}
use Rattle.sim_model.specs.Moment.{sends_of, what_comes_next}
use Rattle.sim_model.specs.Whole.{IsWhole}
use Rattle.sim_model.specs.declared.births.Newborn.{Newborn}
use Rattle.sim_model.specs.declared.next.Next.TheVariants.{Enters}
use Rattle.sim_model.specs.declared.parameters.Parameters.{Parameters}
use Rattle.sim_model.specs.declared.report.Report.{Report}
use Rattle.sim_model.specs.declared.setup.Start.{Start}
use Rattle.sim_model.specs.declared.world.WorldState.{WorldState}
use Rattle.sim_model.specs.Setups.{Ascend}
use Rattle.local_manager.specs.Directories.{Directed, Placed, home_of, nobody, with_actor, without_loads}
use Rattle.local_manager.specs.Mail.{IsAddressed, IsEmpty, IsIndexed, IsOrdered}
use Rattle.local_manager.specs.Merged.{at_home}
use Rattle.local_manager.specs.declared.opened.Span.{Span}
use Rattle.local_manager.specs.declared.phase.Phase.{Phase}
use Rattle.local_manager.specs.declared.phase.Phase.TheVariants.{Opening, Entered, Closed, Torn}

-- the one world, the managers of its actors, how they are placed, the moment entered last and what became of it
pub record WorldParts (A : Type 0) : Type 0 where
  pub one : WorldState A
  pub placed : Placed
  pub policy : Policy
  pub moment : Moment
  pub phase : Phase

-- ---- letters

-- what decides the order of letters that are sent at a moment
abbrev pub sent_at : Parameters → Moment → Precedence
sent_at p at = record { seed = p.seed; sent = at; urgent = p.urgent }

-- the same world, with letters in another order
abbrev pub with_letters : {A : Type 0} → WorldState A → List Letter → WorldState A
with_letters w letters = record w { letters = letters }

-- the letters that were sent at a moment make the same inboxes
abbrev pub SameInboxes : Parameters → Moment → List Letter → List Letter → Type 0
SameInboxes p at letters others = (to : ActorId) → inbox_order letters to (sent_at p at) ≡ inbox_order others to (sent_at p at)

-- this is the one world, but for the order of its letters, of which each inbox is the same
pub record IsSeenAs {A : Type 0} (v : WorldParts A) (w : WorldState A) (sent : Moment) : Type 0 where
  pub world : v.one ≡ with_letters w v.one.letters
  pub letters : SameInboxes w.parameters sent v.one.letters w.letters

-- ---- moments

-- the first moment of an opening world, and the one that comes next after the moment closed last
abbrev pub IsNextFor : {A : Type 0} → Phase → WorldState A → Moment → Moment → Type 0
IsNextFor Opening w now at = at ≡ record { tick = 0; diasca = 0 }
IsNextFor Entered w now at = ⊥
IsNextFor Closed w now at = what_comes_next w now ≡ Enters at
IsNextFor Torn w now at = ⊥

abbrev pub CanEnter : {A : Type 0} → WorldParts A → Moment → Type 0
CanEnter v at = IsNextFor v.phase v.one v.moment at

-- what comes of all that are scheduled at the moment that is entered
abbrev pub reports_now : {A : Type 0} → Meaning A → WorldParts A → List (Report A)
reports_now m v = reports m v.one v.moment

-- who is born when this moment closes
abbrev pub born_now : {A : Type 0} → Meaning A → WorldParts A → List (Newborn A)
born_now m v = births_of_moment m (next_id v.one) (reports_now m v)

-- the one world after this moment
abbrev pub closed_now : {A : Type 0} → Meaning A → WorldParts A → WorldState A
closed_now m v = close m v.one (reports_now m v)

-- the inboxes of what is sent at this moment, without the letters that tell of births
abbrev pub AreInboxesNow : {A : Type 0} → Meaning A → WorldParts A → List Letter → Type 0
AreInboxesNow m v inboxes = AreInboxesOf inboxes (flat_map sends_of (reports_now m v)) (sent_at v.one.parameters v.moment)

-- ---- placement

-- initial actors in the order of their numbers, the first of which has this one
abbrev pub with_starts : {A : Type 0} → Policy → Placed → ℕ → List (Start A) → Placed
with_starts policy p n [] = p
with_starts policy p n (start ∷ starts) = with_starts policy (with_actor policy p (record { 0 = n }) start.name) (n + 1) starts

abbrev pub placed_first : {A : Type 0} → Policy → ℕ → List (Start A) → Placed
placed_first policy managers starts = with_starts policy (nobody managers) 1 starts

abbrev pub with_newborn : {A : Type 0} → Policy → Placed → List (Newborn A) → Placed
with_newborn policy p born = fold (λ q b. with_actor policy q b.id b.name) p born

-- at a close those who retire are counted out first, and then the newborn are placed in the order of their numbers
abbrev pub placed_after : {A : Type 0} → Policy → Placed → List (Report A) → List (Newborn A) → Placed
placed_after policy p rs born = with_newborn policy (without_loads p (retired rs)) born

-- the manager of a living actor, and else the first
abbrev pub route_in : {A : Type 0} → WorldParts A → ActorId → ℕ
route_in v id = if is_alive v.one.states id then home_of v.placed.homes id else 0

-- those of the scheduled whose manager it is
abbrev pub scheduled_at : {A : Type 0} → WorldParts A → ℕ → List ActorId
scheduled_at v m = at_home (home_of v.placed.homes) m v.one.scheduled

-- the scheduled actor at a place of its manager's list
abbrev pub actor_at : {A : Type 0} → WorldParts A → ℕ → ℕ → ActorId
actor_at v m i = slice_index_or (scheduled_at v m) i (record { 0 = 0 })

abbrev pub managers_of : {A : Type 0} → WorldParts A → ℕ
managers_of v = length v.placed.loads

-- ---- entering

-- the moment is entered: in the one world, where each event is that of the world before, and in nothing else
pub record IsEntered {A : Type 0} (v u : WorldParts A) (at : Moment) : Type 0 where
  pub world : u.one ≡ with_letters (enter v.one at) u.one.letters
  pub events : (id : ActorId) → event_at u.one at id ≡ event_at v.one at id
  pub rest : u ≡ record v { one = u.one; moment = at; phase = Entered }

-- ---- closing

-- what managers keep once those who acted asked for ticks and these are gone; nobody is scheduled any more
abbrev pub carried_out : {A : Type 0} → Directed → List (Report A) → List ActorId → Directed
carried_out d kept gone = record {
  placed = without_loads d.placed gone;
  agenda = fold (λ dues id. without_actor id dues) (fold ask_of d.agenda kept) gone;
  scheduled = [];
}

-- how many letters found no living recipient, which stands still at the end of u64
abbrev pub dead_now : {A : Type 0} → Meaning A → WorldParts A → ℕ
dead_now m v = min (dead_among (closed_now m v).states (letters_of (reports_now m v) (born_now m v))) (2 ^ 64 - 1)

-- the moment is closed: in the one world, whose letters make the same inboxes, in how actors are placed, and in nothing else
pub record IsClosed {A : Type 0} (m : Meaning A) (v u : WorldParts A) : Type 0 where
  pub world : u.one ≡ with_letters (closed_now m v) u.one.letters
  pub letters : SameInboxes v.one.parameters v.moment u.one.letters (closed_now m v).letters
  pub placed : u.placed ≡ placed_after v.policy v.placed (reports_now m v) (born_now m v)
  pub rest : u ≡ record v { one = u.one; placed = u.placed; phase = Closed }

-- ---- what holds between calls

-- whole but for its letters, and each actor has a manager
pub record IsUpright {A : Type 0} (m : Meaning A) (v : WorldParts A) : Type 0 where
  pub whole : IsWhole m (with_letters v.one [])
  pub homes : length v.placed.homes ≡ length v.one.states

-- before the first moment nobody has a letter
pub record IsSoundOpening {A : Type 0} (m : Meaning A) (v : WorldParts A) (store : Letters) : Type 0 where
  pub upright : IsUpright m v
  pub empty : IsEmpty store

-- while a moment is entered the letters stand opened, each inbox in order
pub record IsSoundEntered {A : Type 0} (m : Meaning A) (v : WorldParts A) (store : Letters) (opened : List Letter) (spans : List Span) : Type 0 where
  pub upright : IsUpright m v
  pub empty : IsEmpty store
  pub indexed : IsIndexed opened spans
  pub ordered : (to : ActorId) → in_order (precedence_at v.one.parameters v.moment) (inbox_of opened to) ≡ inbox_of opened to
  pub first : v.moment.diasca ≡ 0 → opened ≡ []

-- once it is closed the letters to the living stand in the store, and the called are known
pub record IsSoundClosed {A : Type 0} (m : Meaning A) (v : WorldParts A) (store : Letters) (due creators : List ActorId) : Type 0 where
  pub upright : IsUpright m v
  pub addressed : IsAddressed store
  pub live : All (λ l. is_alive v.one.states l.to ≡ true) v.one.letters
  pub ordered : IsOrdered (sent_at v.one.parameters v.moment) creators store
  pub ascending : Ascend creators
  pub called : due ≡ called v.one.newborn v.one.letters

abbrev pub IsSoundIn : {A : Type 0} → Phase → Meaning A → WorldParts A → Letters → List Letter → List Span → List ActorId → List ActorId → Type 0
IsSoundIn Opening m v store opened spans due creators = IsSoundOpening m v store
IsSoundIn Entered m v store opened spans due creators = IsSoundEntered m v store opened spans
IsSoundIn Closed m v store opened spans due creators = IsSoundClosed m v store due creators
IsSoundIn Torn m v store opened spans due creators = Unit {0}
