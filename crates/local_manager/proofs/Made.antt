-- What the steps of a close ask, and that they leave the world after the moment.
use Rattle.std.proofs.Common.{◌≡◌, ℕ, ◌+◌, ◌-◌, ◌^◌, ◌<◌, ◌≤◌, min, not, ◌||◌, ◌&&◌, None, Option, Some, List, [], ◌++◌, length, map, refl, sym, ap, arith}
use Rattle.std.proofs.Common.{◌∙◌, subst, length-append}
use Rattle.std.proofs.lemmas.List.{length-map}
use Rattle.std.proofs.lemmas.List.Folds.{fold-map}
use Rattle.std.specs.List.{AllPairs, count_by, flat_map, fold}
use Rattle.sim_base.specs.declared.ids.ActorId.{ActorId}
use Rattle.actor_trait.specs.Meaning.{IsLawful, Meaning}
use Rattle.actor_trait.specs.declared.letter.Letter.{Letter}
use Rattle.agenda.specs.Dues.{without_actor}
use Rattle.agenda.specs.declared.due.Due.{Due}
use Rattle.inbox_store.specs.Letters.{Letters, list_of}
use Rattle.sim_model.specs.Births.{birth_letter, member_born, without_births}
use Rattle.sim_model.specs.Moment.{ask_of, close, fault_of_moment, is_alive, is_among, next_id, put_state, retired, sends_of}
use Rattle.sim_model.specs.Setups.{Ascend}
use Rattle.sim_model.specs.Whole.{Numbered}
use Rattle.sim_model.specs.declared.births.Newborn.{Newborn}
use Rattle.sim_model.specs.declared.cast.Member.{Member}
use Rattle.sim_model.specs.declared.report.Report.{Report}
use Rattle.sim_model.proofs.Acting.{are_reports}
use Rattle.sim_model.proofs.Forward.{closed_count, put_states-length}
use Rattle.local_manager.specs.Directories.{AllPlaced, Directed, without_loads}
use Rattle.local_manager.specs.Views.{AreInboxesNow, IsClosed, IsSoundClosed, IsUpright, WorldParts, born_now, carried_out, closed_now, dead_now}
use Rattle.local_manager.specs.Views.{reports_now, sent_at, with_newborn}
use Rattle.local_manager.specs.declared.phase.Phase.TheVariants.{Closed}
use Rattle.local_manager.proofs.Among.{has_some}
use Rattle.local_manager.proofs.Closes.{ClosesWell, box_after, closed_upright, closes_well, dead_are, left_by}
use Rattle.local_manager.proofs.Numbering.{births_numbered, told_rise}
use Rattle.local_manager.proofs.Placing.{homes_without, known_asks, known_filter, living_known, without_all}

-- what the managers keep
abbrev pub directed : {A : Type 0} → WorldParts A → Directed
directed v = record { placed = v.placed; agenda = v.one.agenda; scheduled = v.one.scheduled }

-- ... once those who acted asked for ticks, and those who retire are gone
abbrev pub carried_now : {A : Type 0} → Meaning A → WorldParts A → Directed
carried_now m v = carried_out (directed v) (map without_births (reports_now m v)) (retired (reports_now m v))

-- the newborn of a moment can be admitted
pub record CanAdmit {A : Type 0} (d : Directed) (born : List (Newborn A)) : Type 0 where
  pub numbered : Numbered (length d.placed.homes + 1) (map (λ b. b.id) born)
  pub room : length d.placed.homes + length born ≤ 1000000
  pub idle : d.scheduled ≡ []
  pub known : AllPlaced (λ d. d.actor) (length d.placed.homes) d.agenda

pub can_admit : {A : Type 0} (m : Meaning A) → IsLawful m → (v : WorldParts A) → IsUpright m v → fault_of_moment m v.one v.moment (reports_now m v) ≡ None
    → CanAdmit (carried_now m v) (born_now m v)
can_admit {A} m law v h none =
    let rs : List (Report A) = reports_now m v in
    let born : List (Newborn A) = born_now m v in
    let gone : List ActorId = retired rs in
    let asked : List Due = fold ask_of v.one.agenda rs in
    let fits = closed_count m v.one.parameters.max_actors v.moment v.one rs none h.whole.parameters.count in
    let acts = are_reports m law v.one v.moment h.whole.scheduled h.whole.cast.fits in
    let count : length (without_loads v.placed gone).homes ≡ length v.one.states = ap length (homes_without v.placed gone) ∙ h.homes in
    let asks : fold ask_of v.one.agenda (map without_births rs) ≡ asked = fold-map ask_of without_births v.one.agenda rs in
    let known : AllPlaced (λ (d : Due). d.actor) (length v.one.states) asked =
    known_asks v.one.states rs v.one.agenda acts.live (living_known v.one.states v.one.agenda h.whole.agenda.live) in
    let states : length (close m v.one rs).states ≡ length v.one.states + length born =
    length-append (fold put_state v.one.states rs) (map (λ (b : Newborn A). Some b.state) born)
    ∙ ap (λ n. n + length (map (λ (b : Newborn A). Some b.state) born)) (put_states-length rs v.one.states)
    ∙ ap (λ n. length v.one.states + n) (length-map born (λ (b : Newborn A). Some b.state)) in
    record {
      numbered = subst (λ (n : ℕ). Numbered (n + 1) (map (λ (b : Newborn A). b.id) born)) (sym count) (births_numbered m rs (next_id v.one));
      room = omega (arith, count, fits, states, h.whole.parameters.max_actors);
      idle = refl;
      known = subst (λ (n : ℕ). AllPlaced (λ (d : Due). d.actor) n (carried_now m v).agenda) (sym count)
          (subst (λ (dues : List Due). AllPlaced (λ (d : Due). d.actor) (length v.one.states) (fold (λ left id. without_actor id left) dues gone)) (sym asks)
          (subst (λ (dues : List Due). AllPlaced (λ (d : Due). d.actor) (length v.one.states) dues) (sym (without_all gone asked))
          (known_filter (length v.one.states) (λ (d : Due). not (is_among gone d.actor)) asked known)));
    }

-- the letters of a moment can be posted
pub record CanPost {A : Type 0} (born : List (Newborn A)) : Type 0 where
  pub newborn : Ascend (map (λ b. b.id) born)
  pub told : AllPairs (λ l k. l.to.0 ≤ k.to.0) (map birth_letter born)

pub can_post : {A : Type 0} (m : Meaning A) → IsLawful m → (v : WorldParts A) → IsUpright m v
    → fault_of_moment m v.one v.moment (reports_now m v) ≡ None → CanPost (born_now m v)
can_post m law v h none = record {
  newborn = (closed_upright m law v [] h none).whole.newborn.ascend;
  told = told_rise m (next_id v.one) (reports_now m v) (are_reports m law v.one v.moment h.whole.scheduled h.whole.cast.fits).ascend;
}

-- ... and the actors are fewer than the numbers
pub states_few : {A : Type 0} (m : Meaning A) (v : WorldParts A) (states1 states2 : List (Option A)) (kept : List (Report A)) (born : List (Newborn A))
    → IsUpright m v → fault_of_moment m v.one v.moment (reports_now m v) ≡ None → kept ≡ map without_births (reports_now m v) → born ≡ born_now m v
    → states1 ≡ fold put_state v.one.states kept → states2 ≡ states1 ++ map (λ b. Some b.state) born → length states2 < 2 ^ 32
states_few {A} m v states1 states2 kept born h none emptied bears put all =
    let rs : List (Report A) = reports_now m v in
    let fits = closed_count m v.one.parameters.max_actors v.moment v.one rs none h.whole.parameters.count in
    let puts : fold put_state v.one.states (map without_births rs) ≡ fold put_state v.one.states rs = fold-map put_state without_births v.one.states rs in
    let full : states2 ≡ (closed_now m v).states = rw (all, put, emptied, bears, puts) refl in
    let long : length states2 ≡ length (closed_now m v).states = ap length full in
    omega (arith, long, fits, h.whole.parameters.max_actors)

made : {A : Type 0} (m : Meaning A) (v : WorldParts A) (d : Directed) (states : List (Option A)) (newborn : List ActorId) (cast : List Member)
    (letters : List Letter) (dead_letters dead : ℕ)
    → states ≡ (closed_now m v).states → d ≡ record (carried_now m v) { placed = with_newborn v.policy (carried_now m v).placed (born_now m v) }
    → newborn ≡ map (λ b. b.id) (born_now m v) → cast ≡ v.one.cast ++ map (member_born m) (born_now m v) → dead ≡ dead_now m v
    → dead_letters ≡ min (v.one.dead_letters + dead) (2 ^ 64 - 1)
    → record v {
      one = record v.one {
        states = states;
        agenda = d.agenda;
        letters = letters;
        newborn = newborn;
        scheduled = d.scheduled;
        cast = cast;
        dead_letters = dead_letters;
      };
      placed = d.placed;
      phase = Closed;
    }
    ≡ left_by m v letters
made {A} m v d states newborn cast letters dead_letters dead put last named known found count =
    let rs : List (Report A) = reports_now m v in
    let asks : fold ask_of v.one.agenda (map without_births rs) ≡ fold ask_of v.one.agenda rs = fold-map ask_of without_births v.one.agenda rs in
    let total : dead_letters ≡ (closed_now m v).dead_letters = omega (arith, count, found) in
    rw (put, last, named, known, total, asks, without_all (retired rs) (fold ask_of v.one.agenda rs)) refl

-- what the steps left
abbrev pub left_over : {A : Type 0} → WorldParts A → Directed → List (Option A) → List ActorId → List Member → Letters → ℕ → WorldParts A
left_over v d states newborn cast store dead_letters = record v {
  one = record v.one {
    states = states;
    agenda = d.agenda;
    letters = flat_map
        (λ l. l) store.lists;
    newborn = newborn;
    scheduled = d.scheduled;
    cast = cast;
    dead_letters = dead_letters;
  };
  placed = d.placed;
  phase = Closed;
}

-- ... by the clauses of each
pub record AreSteps {A : Type 0} (m : Meaning A) (v : WorldParts A) (inboxes : List Letter) (d1 d2 : Directed) (states1 states2 : List (Option A))
    (newborn due creators : List ActorId)
    (cast : List Member) (store : Letters) (dead_letters dead : ℕ) (kept : List (Report A)) (born : List (Newborn A)) (told : List Letter)
    (gone : List ActorId) : Type 0 where
  pub emptied : kept ≡ map without_births (reports_now m v)
  pub bears : born ≡ born_now m v
  pub tells : told ≡ map birth_letter (born_now m v)
  pub leave : gone ≡ retired (reports_now m v)
  pub states : states1 ≡ fold put_state v.one.states kept
  pub directory : d1 ≡ carried_out (directed v) kept gone
  pub placed : d2 ≡ record d1 { placed = with_newborn v.policy d1.placed born }
  pub joined : cast ≡ v.one.cast ++ map (member_born m) born
  pub all : states2 ≡ states1 ++ map (λ b. Some b.state) born
  pub ids : newborn ≡ map (λ b. b.id) born
  pub lists : (to : ActorId) → list_of store to.0 ≡ box_after states2 inboxes told to
  pub unread : dead ≡ min (count_by (λ l. not (is_alive states2 l.to)) inboxes + count_by (λ l. not (is_alive states2 l.to)) told) (2 ^ 64 - 1)
  pub ascending : Ascend creators
  pub creates : (id : ActorId) → is_among creators id ≡ (is_alive states2 id && has_some told id)
  pub rising : Ascend due
  pub calls : (id : ActorId) → is_among due id ≡ (is_among newborn id || ((is_alive states2 id && has_some inboxes id) || is_among creators id))
  pub count : dead_letters ≡ min (v.one.dead_letters + dead) (2 ^ 64 - 1)

pub record Closes {A : Type 0} (m : Meaning A) (v u : WorldParts A) (store : Letters) (due creators : List ActorId) (dead : ℕ) : Type 0 where
  pub sound : IsSoundClosed m u store due creators
  pub closed : IsClosed m v u
  pub unread : dead ≡ dead_now m v

pub closes : {A : Type 0} (m : Meaning A) → IsLawful m → (v : WorldParts A) (inboxes : List Letter) (d1 d2 : Directed)
    (states1 states2 : List (Option A)) (newborn due creators : List ActorId)
    (cast : List Member) (store : Letters) (dead_letters dead : ℕ) (kept : List (Report A)) (born : List (Newborn A)) (told : List Letter) (gone : List ActorId)
    → IsUpright m v → fault_of_moment m v.one v.moment (reports_now m v) ≡ None → AreInboxesNow m v inboxes
    → AreSteps m v inboxes d1 d2 states1 states2 newborn due creators cast store dead_letters dead kept born told gone
    → Closes m v (left_over v d2 states2 newborn cast store dead_letters) store due creators dead
closes {A} m law v inboxes d1 d2 states1 states2 newborn due creators cast store dead_letters dead kept born told gone upright calm are h =
    let rs : List (Report A) = reports_now m v in
    let puts : fold put_state v.one.states (map without_births rs) ≡ fold put_state v.one.states rs = fold-map put_state without_births v.one.states rs in
    let full : states2 ≡ (closed_now m v).states = rw (h.all, h.states, h.emptied, h.bears, puts) refl in
    let begun : d1 ≡ carried_now m v = rw (h.directory, h.emptied, h.leave) refl in
    let last : d2 ≡ record (carried_now m v) { placed = with_newborn v.policy (carried_now m v).placed (born_now m v) } = rw (h.placed, begun, h.bears) refl in
    let named : newborn ≡ map (λ b. b.id) (born_now m v) = rw (h.ids, h.bears) refl in
    let known : cast ≡ v.one.cast ++ map (member_born m) (born_now m v) = rw (h.joined, h.bears) refl in
    let lists : (to : ActorId) → list_of store to.0 ≡ box_after (closed_now m v).states inboxes (map birth_letter (born_now m v)) to =
    λ to. h.lists to ∙ ap (λ (s : List (Option A)). box_after s inboxes told to) full
    ∙ ap (λ (l : List Letter). box_after (closed_now m v).states inboxes l to) h.tells in
    let creates : (id : ActorId) → is_among creators id ≡ (is_alive (closed_now m v).states id && has_some (map birth_letter (born_now m v)) id) =
    λ id. h.creates id ∙ ap (λ (s : List (Option A)). is_alive s id && has_some told id) full
    ∙ ap (λ (l : List Letter). is_alive (closed_now m v).states id && has_some l id) h.tells in
    let calls : (id : ActorId) → is_among due id
    ≡ (is_among (map (λ b. b.id) (born_now m v)) id || ((is_alive (closed_now m v).states id && has_some inboxes id) || is_among creators id)) =
    λ id. h.calls id
    ∙ ap (λ (s : List (Option A)). is_among newborn id || ((is_alive s id && has_some inboxes id) || is_among creators id)) full
    ∙ ap (λ (l : List ActorId). is_among l id || ((is_alive (closed_now m v).states id && has_some inboxes id) || is_among creators id)) named in
    let dead_is : dead ≡ dead_now m v = h.unread
    ∙ ap (λ (s : List (Option A)). min (count_by (λ l. not (is_alive s l.to)) inboxes + count_by (λ l. not (is_alive s l.to)) told) (2 ^ 64 - 1)) full
    ∙ ap (λ (l : List Letter). min (count_by (λ l. not (is_alive (closed_now m v).states l.to)) inboxes + count_by
    (λ l. not (is_alive (closed_now m v).states l.to)) l) (2 ^ 64 - 1)) h.tells
    ∙ ap (λ (n : ℕ). min n (2 ^ 64 - 1)) (dead_are (closed_now m v).states inboxes (map birth_letter (born_now m v))
    (sent_at v.one.parameters v.moment) (flat_map sends_of rs) are) in
    let all : ClosesWell m v store due creators = closes_well m law v inboxes store due creators upright calm are lists h.ascending creates h.rising calls in
    let same : left_over v d2 states2 newborn cast store dead_letters ≡ left_by m v (flat_map (λ l. l) store.lists) =
    made m v d2 states2 newborn cast (flat_map (λ l. l) store.lists) dead_letters dead full last named known dead_is h.count in
    record {
      sound = subst (λ (u : WorldParts A). IsSoundClosed m u store due creators) (sym same) all.sound;
      closed = subst (λ (u : WorldParts A). IsClosed m v u) (sym same) all.closed;
      unread = dead_is;
    }
