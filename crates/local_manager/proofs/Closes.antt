-- The world after a moment, from what its calls leave.
use Rattle.std.proofs.Common.{◌≡◌, ◌+◌, Bool, true, false, not, ◌||◌, ◌&&◌, cond, nat_lt, Option, None, List, [], ◌∷◌, ◌++◌, length, get_or, map}
use Rattle.std.proofs.Common.{Some, refl, sym, ap, arith, ◌∙◌, subst, length-append}
use Rattle.std.proofs.lemmas.Bool.Decides.{nat_tests}
use Rattle.std.proofs.lemmas.List.{append-nil, get_or_default, length-map}
use Rattle.std.proofs.lemmas.List.Elements.{All-append, filter-append}
use Rattle.std.proofs.lemmas.List.Sums.{sum_by-append}
use Rattle.std.specs.List.{All, count_by, filter, flat_map, fold}
use Rattle.sim_base.specs.declared.ids.ActorId.{ActorId}
use Rattle.actor_trait.specs.InboxOrder.{Precedence, in_order, inbox_order, is_to}
use Rattle.actor_trait.specs.Meaning.{IsLawful, Meaning}
use Rattle.actor_trait.specs.declared.letter.Letter.{Letter}
use Rattle.inbox_order.specs.Inboxes.{inbox_of}
use Rattle.inbox_order.proofs.Arrival.{not_lost}
use Rattle.inbox_order.proofs.Grouping.{in_order-nil, length-in_order}
use Rattle.inbox_store.specs.Letters.{Letters, list_of}
use Rattle.sim_model.specs.Births.{birth_letter}
use Rattle.sim_model.specs.Moment.{called, close, fault_of_moment, is_alive, is_among, put_state, retired, sends_of}
use Rattle.sim_model.specs.Setups.{Ascend}
use Rattle.sim_model.specs.Whole.{IsWhole}
use Rattle.sim_model.specs.declared.births.Newborn.{Newborn}
use Rattle.sim_model.specs.declared.report.Report.{Report}
use Rattle.sim_model.specs.declared.world.WorldState.{WorldState}
use Rattle.sim_model.proofs.Acting.{are_reports}
use Rattle.sim_model.proofs.Forward.{closed_count, put_states-length}
use Rattle.sim_model.proofs.Keeping.{close_whole}
use Rattle.sim_model.proofs.Merging.{once_ascends}
use Rattle.sim_model.proofs.Sameness.{same_ids}
use Rattle.local_manager.specs.Directories.{Placed, without_loads}
use Rattle.local_manager.specs.Mail.{IsAddressed}
use Rattle.local_manager.specs.Views.{AreInboxesNow, IsClosed, IsSoundClosed, IsUpright, WorldParts, born_now, closed_now, placed_after, reports_now}
use Rattle.local_manager.specs.Views.{sent_at, with_letters}
use Rattle.local_manager.specs.declared.phase.Phase.TheVariants.{Closed}
use Rattle.local_manager.proofs.Among.{among_called, has_some, none_some, some_filtered}
use Rattle.local_manager.proofs.Boxes.{boxed}
use Rattle.local_manager.proofs.Counting.{same_counts}
use Rattle.local_manager.proofs.Ordering.{ordered_more, ordered_twice}
use Rattle.local_manager.proofs.Placing.{homes_born, homes_without}
use Rattle.local_manager.proofs.Sending.{its_own, living_to}

-- ---- the letters

-- what each list has once the letters of inboxes and those that tell of births are put
abbrev pub box_after : {A : Type 0} → List (Option A) → List Letter → List Letter → ActorId → List Letter
box_after states inboxes told to = cond (is_alive states to) (inbox_of inboxes to ++ filter (is_to to) told) []

pub record IsPosted {A : Type 0} (states : List (Option A)) (inboxes told : List Letter) (p : Precedence) (sends : List Letter) (store : Letters) : Type 0 where
  pub addressed : IsAddressed store
  pub same : (to : ActorId) → inbox_order (flat_map (λ l. l) store.lists) to p ≡ inbox_order (filter (λ l. is_alive states l.to) (sends ++ told)) to p
  pub live : All (λ l. is_alive states l.to ≡ true) (flat_map (λ l. l) store.lists)

pub posted : {A : Type 0} (states : List (Option A)) (inboxes told : List Letter) (p : Precedence) (sends : List Letter) (store : Letters)
    → ((to : ActorId) → inbox_of inboxes to ≡ inbox_order sends to p) → ((to : ActorId) → list_of store to.0 ≡ box_after states inboxes told to)
    → IsPosted states inboxes told p sends store
posted {A} states inboxes told p sends store are lists = record { addressed = addressed; same = same; live = live }
  where
    all : List Letter
    all = flat_map (λ l. l) store.lists

    its : (to : ActorId) (b : Bool) → All (λ l. is_to to l ≡ true) (cond b (inbox_of inboxes to ++ filter (is_to to) told) [])
    its to true = All-append (λ l. is_to to l ≡ true) (inbox_of inboxes to) (filter (is_to to) told) (its_own to inboxes) (its_own to told)
    its to false = λ k d lt. absurd (omega (arith, lt))

    addressed : IsAddressed store
    addressed to = subst (λ (l : List Letter). All (λ k. is_to to k ≡ true) l) (sym (lists to)) (its to (is_alive states to))

    same : (to : ActorId) → inbox_order all to p ≡ inbox_order (filter (λ l. is_alive states l.to) (sends ++ told)) to p
    same to =
        ap (in_order p) (boxed store to addressed ∙ lists to)
        ∙ both (is_alive states to)
        ∙ ap (in_order p) (sym (living_to states to (sends ++ told)))
      where
        both : (b : Bool) → in_order p (cond b (inbox_of inboxes to ++ filter (is_to to) told) []) ≡ in_order p (cond b (filter (is_to to) (sends ++ told)) [])
        both true =
            ap (λ (l : List Letter). in_order p (l ++ filter (is_to to) told)) (are to)
            ∙ ordered_more p (filter (is_to to) sends) (filter (is_to to) told)
            ∙ ap (in_order p) (sym (filter-append (is_to to) sends told))
        both false = refl

    live : All (λ l. is_alive states l.to ≡ true) all
    live k d lt = lives (is_alive states (get_or all k d).to) refl
      where
        l : Letter
        l = get_or all k d

        lives : (b : Bool) → is_alive states l.to ≡ b → is_alive states l.to ≡ true
        lives true e = e
        lives false e =
            let none : filter (is_to l.to) all ≡ [] = boxed store l.to addressed ∙ lists l.to ∙ rw e refl in
            let mine : is_to l.to l ≡ true = grind (arith, nat_tests) in
            absurd (not_lost (is_to l.to) all l (k, lt, get_or_default all k l d lt) mine none)

-- a list that no birth letter joined stands in order
pub in_order_still : {A : Type 0} (states : List (Option A)) (inboxes told : List Letter) (p : Precedence) (sends : List Letter) (to : ActorId)
    → inbox_of inboxes to ≡ inbox_order sends to p → (is_alive states to && has_some told to) ≡ false
    → in_order p (box_after states inboxes told to) ≡ box_after states inboxes told to
in_order_still {A} states inboxes told p sends to are none = by (is_alive states to) none
  where
    by : (b : Bool) → (b && has_some told to) ≡ false
        → in_order p (cond b (inbox_of inboxes to ++ filter (is_to to) told) []) ≡ cond b (inbox_of inboxes to ++ filter (is_to to) told) []
    by true h =
        let nothing : filter (is_to to) told ≡ [] = none_some (filter (is_to to) told) (sym (some_filtered told to) ∙ h) in
        rw (nothing, append-nil (inbox_of inboxes to), are) (ordered_twice p (filter (is_to to) sends))
    by false h = in_order-nil p

-- who is called is known
pub called_are : {A : Type 0} (states : List (Option A)) (inboxes told : List Letter) (store : Letters) (newborn due creators : List ActorId)
    → IsAddressed store → ((to : ActorId) → list_of store to.0 ≡ box_after states inboxes told to)
    → ((id : ActorId) → is_among creators id ≡ (is_alive states id && has_some told id)) → Ascend due
    → ((id : ActorId) → is_among due id ≡ (is_among newborn id || ((is_alive states id && has_some inboxes id) || is_among creators id)))
    → due ≡ called newborn (flat_map (λ l. l) store.lists)
called_are {A} states inboxes told store newborn due creators addressed lists creates up each =
    same_ids due (called newborn all) up (once_ascends (newborn ++ map (λ l. l.to) all))
    (λ id. each id ∙ ap (λ (b : Bool). is_among newborn id || b) (one id) ∙ sym (among_called newborn all id))
  where
    all : List Letter
    all = flat_map (λ l. l) store.lists

    both : (xs ys : List Letter) → (nat_lt 0 (length xs) || nat_lt 0 (length ys)) ≡ nat_lt 0 (length (xs ++ ys))
    both [] ys = refl
    both (x ∷ xs) ys = grind (arith, nat_tests)

    one : (id : ActorId) → ((is_alive states id && has_some inboxes id) || is_among creators id) ≡ has_some all id
    one id =
        ap (λ (b : Bool). (is_alive states id && has_some inboxes id) || b) (creates id)
        ∙ by (is_alive states id)
        ∙ ap (λ (l : List Letter). nat_lt 0 (length l)) (sym (boxed store id addressed ∙ lists id))
        ∙ sym (some_filtered all id)
      where
        by : (b : Bool) → ((b && has_some inboxes id) || (b && has_some told id)) ≡ nat_lt 0
            (length (cond b (inbox_of inboxes id ++ filter (is_to id) told) []))
        by true = rw (some_filtered inboxes id, some_filtered told id) (both (inbox_of inboxes id) (filter (is_to id) told))
        by false = grind (arith, nat_tests)

-- ---- the dead letters

pub dead_are : {A : Type 0} (states : List (Option A)) (inboxes told : List Letter) (p : Precedence) (sends : List Letter)
    → ((to : ActorId) → inbox_of inboxes to ≡ inbox_order sends to p)
    → count_by (λ l. not (is_alive states l.to)) inboxes + count_by (λ l. not (is_alive states l.to)) told ≡ count_by (λ l. not (is_alive states l.to))
    (sends ++ told)
dead_are states inboxes told p sends are =
    let same : count_by (λ l. not (is_alive states l.to)) inboxes ≡ count_by (λ l. not (is_alive states l.to)) sends =
    same_counts (λ id. not (is_alive states id)) inboxes sends
    (λ to. ap (λ (l : List Letter). length l) (are to) ∙ length-in_order p (filter (is_to to) sends)) in
    omega (arith, same, sum_by-append (λ l. cond (not (is_alive states l.to)) 1 0) sends told)

-- ---- the one world

-- whole but for its letters, as they are
bare_whole : {A : Type 0} (m : Meaning A) (w : WorldState A) (letters : List Letter) → IsWhole m w → IsWhole m (with_letters (with_letters w letters) [])
bare_whole m w letters h = record {
  parameters = h.parameters;
  scheduled = h.scheduled;
  agenda = h.agenda;
  letters = record { live = λ k d lt. absurd (omega (arith, lt)); distinct = λ i j d lt le. absurd (omega (arith, le)) };
  newborn = h.newborn;
  cast = h.cast;
}

pub closed_upright : {A : Type 0} (m : Meaning A) → IsLawful m → (v : WorldParts A) (letters : List Letter) → IsUpright m v
    → fault_of_moment m v.one v.moment (reports_now m v) ≡ None
    → IsUpright m (record v {
      one = with_letters (closed_now m v) letters;
      placed = placed_after v.policy v.placed (reports_now m v)
          (born_now m v);
      phase = Closed;
    })
closed_upright {A} m law v letters h none =
    let rs : List (Report A) = reports_now m v in
    let born : List (Newborn A) = born_now m v in
    let bare : WorldState A = with_letters v.one [] in
    let fits = closed_count m v.one.parameters.max_actors v.moment v.one rs none h.whole.parameters.count in
    let acts = are_reports m law v.one v.moment h.whole.scheduled h.whole.cast.fits in
    let whole : IsWhole m (close m bare rs) = close_whole m bare rs acts h.whole fits in
    let placed : Placed = without_loads v.placed (retired rs) in
    let homes : length placed.homes ≡ length v.placed.homes = ap length (homes_without v.placed (retired rs)) in
    let states : length (close m v.one rs).states ≡ length v.one.states + length born =
    length-append (fold put_state v.one.states rs) (map (λ (b : Newborn A). Some b.state) born)
    ∙ ap (λ n. n + length (map (λ (b : Newborn A). Some b.state) born)) (put_states-length rs v.one.states)
    ∙ ap (λ n. length v.one.states + n) (length-map born (λ (b : Newborn A). Some b.state)) in
    record {
      whole = bare_whole m (close m bare rs) letters whole;
      homes = omega (arith, homes_born v.policy placed born, homes, states, h.homes);
    }

-- ---- what the calls of a close leave

-- the world that they leave
abbrev pub left_by : {A : Type 0} → Meaning A → WorldParts A → List Letter → WorldParts A
left_by m v letters = record v {
  one = with_letters (closed_now m v) letters;
  placed = placed_after v.policy v.placed (reports_now m v) (born_now m v);
  phase = Closed;
}

pub record ClosesWell {A : Type 0} (m : Meaning A) (v : WorldParts A) (store : Letters) (due creators : List ActorId) : Type 0 where
  pub sound : IsSoundClosed m (left_by m v (flat_map (λ l. l) store.lists)) store due creators
  pub closed : IsClosed m v (left_by m v (flat_map (λ l. l) store.lists))

pub closes_well : {A : Type 0} (m : Meaning A) → IsLawful m → (v : WorldParts A) (inboxes : List Letter) (store : Letters)
    (due creators : List ActorId) → IsUpright m v
    → fault_of_moment m v.one v.moment (reports_now m v) ≡ None → AreInboxesNow m v inboxes
    → ((to : ActorId) → list_of store to.0 ≡ box_after (closed_now m v).states inboxes (map birth_letter (born_now m v)) to)
    → Ascend creators → ((id : ActorId) → is_among creators id ≡ (is_alive (closed_now m v).states id && has_some (map birth_letter (born_now m v)) id))
    → Ascend due
    → ((id : ActorId) → is_among due id ≡ (is_among (map (λ b. b.id) (born_now m v)) id ||
    ((is_alive (closed_now m v).states id && has_some inboxes id) || is_among creators id)))
    → ClosesWell m v store due creators
closes_well {A} m law v inboxes store due creators upright calm are lists up creates rises each =
    let rs : List (Report A) = reports_now m v in
    let told : List Letter = map birth_letter (born_now m v) in
    let states : List (Option A) = (closed_now m v).states in
    let sends : List Letter = flat_map sends_of rs in
    let p : Precedence = sent_at v.one.parameters v.moment in
    let letters : List Letter = flat_map (λ l. l) store.lists in
    let put = posted states inboxes told p sends store are lists in
    record {
      sound = record {
        upright = closed_upright m law v letters upright calm;
        addressed = put.addressed;
        live = put.live;
        ordered = λ to out. subst (λ (l : List Letter). in_order p l ≡ l) (sym (lists to))
            (in_order_still states inboxes told p sends to (are to) (sym (creates to) ∙ out));
        ascending = up;
        called = called_are states inboxes told store (map (λ b. b.id) (born_now m v)) due creators put.addressed lists creates rises each;
      };
      closed = record { world = refl; letters = put.same; placed = refl; rest = refl };
    }
