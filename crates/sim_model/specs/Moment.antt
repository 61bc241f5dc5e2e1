-- One moment of a run: it is entered, each that is scheduled acts once, the first fault ends the
-- run, else the moment is closed, and something comes next.
use Rattle.std.specs.Prelude.{ℕ, ◌+◌, ◌-◌, ◌^◌, min, Bool, ◌&&◌, ◌||◌, not, nat_eq, nat_lt, if◌then◌else◌, List, [], ◌∷◌, ◌++◌, length, map}
use Rattle.std.specs.Prelude.{slice_get, slice_set, Option, Some, None, is_some}
use Rattle.std.specs.BTreeSet.{insert_key}
use Rattle.std.specs.List.{count_by, filter, filter_map, flat_map, fold, list_any}
use Rattle.std.specs.Option.{option_map, option_flatten, option_or}
use Rattle.std.specs.Ordering.{nat_cmp}
use Rattle.std.specs.declared.cmp.Ordering.{Ordering}
use Rattle.sim_base.specs.declared.ids.ActorId.{ActorId}
use Rattle.sim_base.specs.declared.moment.Ending.TheVariants as ending
use Rattle.sim_base.specs.declared.moment.Moment.{Moment}
use Rattle.sim_base.specs.declared.moment.Row.{Row}
use Rattle.actor_trait.specs.Faults.{fault_among}
use Rattle.actor_trait.specs.InboxOrder.{Precedence, inbox_order}
use Rattle.actor_trait.specs.Meaning.{Meaning}
use Rattle.actor_trait.specs.Seen.{Seen, seen}
use Rattle.actor_trait.specs.declared.context.Context.{Context}
use Rattle.actor_trait.specs.declared.letter.Letter.{Letter}
use Rattle.actor_trait.specs.declared.letter.Parcel.{Parcel}
use Rattle.actor_trait.specs.declared.outcome.Outcome.{Outcome}
use Rattle.agenda.specs.Dues.{add_due, due_at, without_tick}
use Rattle.agenda.specs.declared.due.Due.{Due}
use Rattle.sim_model.specs.Births.{bears_past, birth_letter, births_of_moment, member_born}
use Rattle.sim_model.specs.declared.births.Newborn.{Newborn}
use Rattle.sim_model.specs.declared.next.Next.{Next}
use Rattle.sim_model.specs.declared.next.Next.TheVariants.{Enters, Ends}
use Rattle.sim_model.specs.declared.parameters.Parameters.{Parameters}
use Rattle.sim_model.specs.declared.report.Fault.{Fault}
use Rattle.sim_model.specs.declared.report.Report.{Report}
use Rattle.sim_model.specs.declared.world.WorldState.{WorldState}

-- ---- who is scheduled

-- the first moment of a run
abbrev pub is_opening : Moment → Bool
is_opening at = nat_eq at.tick 0 && nat_eq at.diasca 0

-- a moment at which actors act because they asked for its tick
abbrev pub is_spontaneous : Moment → Bool
is_spontaneous at = not (nat_eq at.tick 0) && nat_eq at.diasca 0

-- the numbers of the living, the first of these states being that of this number
abbrev pub living_from : {A : Type 0} → ℕ → List (Option A) → List ActorId
living_from n [] = []
living_from n (None ∷ states) = living_from (n + 1) states
living_from n (Some a ∷ states) = record { 0 = n } ∷ living_from (n + 1) states

abbrev pub actor_cmp : ActorId → ActorId → Ordering
actor_cmp a b = nat_cmp a.0 b.0

-- ascending, each once
abbrev pub in_order_once : List ActorId → List ActorId
in_order_once ids = fold (λ done id. insert_key actor_cmp done id) [] ids

-- the newborn and all who have a letter
abbrev pub called : List ActorId → List Letter → List ActorId
called newborn letters = in_order_once (newborn ++ map (λ l. l.to) letters)

-- all at the opening, those that asked for the tick at its first diasca, and the called later
abbrev pub scheduled : {A : Type 0} → WorldState A → Moment → List ActorId
scheduled w at =
    if is_opening at then living_from 1 w.states else (if is_spontaneous at then due_at at.tick w.agenda else called w.newborn w.letters)

-- ---- entering

-- a tick that is entered leaves the agenda
abbrev pub agenda_at : {A : Type 0} → WorldState A → Moment → List Due
agenda_at w at = if is_spontaneous at then without_tick at.tick w.agenda else w.agenda

-- who is scheduled is kept
abbrev pub enter : {A : Type 0} → WorldState A → Moment → WorldState A
enter w at = record w { agenda = agenda_at w at; scheduled = scheduled w at }

-- ---- the outcome of an actor

abbrev pub state_of : {A : Type 0} → List (Option A) → ActorId → Option A
state_of states id = if nat_eq id.0 0 then None else option_flatten (slice_get states (id.0 - 1))

abbrev pub is_alive : {A : Type 0} → List (Option A) → ActorId → Bool
is_alive states id = is_some (state_of states id)

abbrev pub is_among : List ActorId → ActorId → Bool
is_among ids id = list_any (λ k. nat_eq k.0 id.0) ids

-- what decides the order of letters that were sent at the diasca before
abbrev pub precedence_at : Parameters → Moment → Precedence
precedence_at p at = record { seed = p.seed; sent = record { tick = at.tick; diasca = at.diasca - 1 }; urgent = p.urgent }

-- the letters to the actor that were sent at the diasca before, in order
abbrev pub inbox_at : {A : Type 0} → WorldState A → Moment → ActorId → List Letter
inbox_at w at id = if nat_eq at.diasca 0 then [] else inbox_order w.letters id (precedence_at w.parameters at)

-- the first event of all at the opening, and of the newborn
abbrev pub event_at : {A : Type 0} → WorldState A → Moment → ActorId → Seen
event_at w at id = seen (is_opening at || is_among w.newborn id) (is_spontaneous at) (inbox_at w at id)

abbrev pub context_at : {A : Type 0} → WorldState A → Moment → ActorId → Context
context_at w at id = record { seed = w.parameters.seed; now = at; me = id }

abbrev pub outcome_of : {A : Type 0} → Meaning A → WorldState A → Moment → ActorId → Option (Outcome A)
outcome_of m w at id = option_map (λ a. m.acts a (context_at w at id) (event_at w at id)) (state_of w.states id)

abbrev pub report_of : {A : Type 0} → Meaning A → WorldState A → Moment → ActorId → Option (Report A)
report_of m w at id = option_map (λ o. record { id = id; outcome = o }) (outcome_of m w at id)

-- what comes of each that is scheduled, in the order of their numbers
abbrev pub reports : {A : Type 0} → Meaning A → WorldState A → Moment → List (Report A)
reports m w at = filter_map (report_of m w at) w.scheduled

-- ---- the fault of a moment

-- that of the first actor that shows one, where the first newborn has the next number, and no actor may have one past the most
abbrev pub first_fault : {A : Type 0} → Meaning A → ℕ → ℕ → Moment → List (Report A) → Option Fault
first_fault m max_actors next at [] = None
first_fault m max_actors next at (r ∷ rs) =
    option_or (option_map (λ code. record { actor = r.id; code = code })
    (fault_among m r.outcome at (bears_past max_actors next (length r.outcome.births))))
    (first_fault m max_actors (next + length r.outcome.births) at rs)

-- the number of the next newborn
abbrev pub next_id : {A : Type 0} → WorldState A → ℕ
next_id w = length w.states + 1

-- the fault of the reports of a moment that is entered
abbrev pub fault_of_moment : {A : Type 0} → Meaning A → WorldState A → Moment → List (Report A) → Option Fault
fault_of_moment m w at rs = first_fault m w.parameters.max_actors (next_id w) at rs

-- ---- the close of a moment

-- the next state of one that acted, or none if it retires
abbrev pub put_state : {A : Type 0} → List (Option A) → Report A → List (Option A)
put_state states r =
    if nat_eq r.id.0 0 then states else slice_set states (r.id.0 - 1) (if r.outcome.retire then None else Some r.outcome.state)

-- those who retire, in the order of their reports
abbrev pub retired : {A : Type 0} → List (Report A) → List ActorId
retired rs = map (λ r. r.id) (filter (λ r. r.outcome.retire) rs)

-- one actor asks for these ticks
abbrev pub ask : ActorId → List Due → List ℕ → List Due
ask id agenda ticks = fold (λ a t. add_due (record { tick = t; actor = id }) a) agenda ticks

abbrev pub ask_of : {A : Type 0} → List Due → Report A → List Due
ask_of agenda r = ask r.id agenda r.outcome.ticks

-- what one sends, with serials from this one on
abbrev pub post : ActorId → ℕ → List Parcel → List Letter
post from serial [] = []
post from serial (p ∷ ps) = record { to = p.to; from = from; serial = serial; payload = p.payload } ∷ post from (serial + 1) ps

abbrev pub sends_of : {A : Type 0} → Report A → List Letter
sends_of r = post r.id 0 r.outcome.sends

-- the sends in order of sender, and after them the birth letters
abbrev pub letters_of : {A : Type 0} → List (Report A) → List (Newborn A) → List Letter
letters_of rs born = flat_map sends_of rs ++ map birth_letter born

-- the samples of an event as rows
abbrev pub rows_of : {A : Type 0} → Moment → Report A → List Row
rows_of at r = map (λ s. record { at = at; actor = r.id; probe = s.probe; value = s.value }) r.outcome.samples

-- those that acted, and behind them the newborn
abbrev pub states_after : {A : Type 0} → List (Option A) → List (Report A) → List (Newborn A) → List (Option A)
states_after states rs born = fold put_state states rs ++ map (λ b. Some b.state) born

-- the ticks that were asked for join the agenda, and those of the retired leave it
abbrev pub agenda_after : {A : Type 0} → List Due → List (Report A) → List Due
agenda_after agenda rs = filter (λ d. not (is_among (retired rs) d.actor)) (fold ask_of agenda rs)

abbrev pub dead_among : {A : Type 0} → List (Option A) → List Letter → ℕ
dead_among states letters = count_by (λ l. not (is_alive states l.to)) letters

-- the world after the moment, where these were born: letters to the living stay, and the others are counted
abbrev pub close_with : {A : Type 0} → Meaning A → WorldState A → List (Report A) → List (Newborn A) → WorldState A
close_with m w rs born =
    let states = states_after w.states rs born in
    let letters = letters_of rs born in
    record w {
      states = states;
      agenda = agenda_after w.agenda rs;
      letters = filter (λ l. is_alive states l.to) letters;
      newborn = map (λ b. b.id) born;
      scheduled = [];
      cast = w.cast ++ map (member_born m) born;
      dead_letters = min (w.dead_letters + dead_among states letters) (2 ^ 64 - 1);
    }

abbrev pub close : {A : Type 0} → Meaning A → WorldState A → List (Report A) → WorldState A
close m w rs = close_with m w rs (births_of_moment m (next_id w) rs)

-- ---- what comes next

-- the least tick that was asked for, if it isn't past the last
abbrev pub next_tick : ℕ → List Due → Next
next_tick last_tick [] = Ends ending.Exhausted
next_tick last_tick (d ∷ ds) = if nat_lt last_tick d.tick then Ends ending.TickLimit else Enters (record { tick = d.tick; diasca = 0 })

-- the next diasca where somebody is scheduled there, if it isn't the limit; else the next tick
abbrev pub next_for : {A : Type 0} → WorldState A → Moment → List ActorId → Next
next_for w at [] = next_tick w.parameters.last_tick w.agenda
next_for w at (id ∷ ids) =
    if nat_eq (at.diasca + 1) w.parameters.diasca_limit then Ends ending.DiascaLimit else Enters (record { tick = at.tick; diasca = at.diasca + 1 })

abbrev pub what_comes_next : {A : Type 0} → WorldState A → Moment → Next
what_comes_next w at = next_for w at (scheduled w (record { tick = at.tick; diasca = at.diasca + 1 }))
