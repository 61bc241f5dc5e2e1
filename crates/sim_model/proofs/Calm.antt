-- What follows where nobody shows a fault.
use Rattle.std.proofs.Common.{◌≡◌, ◌+◌, ◌-◌, ◌≤◌, ◌||◌, nat_lt, sym, ◌∙◌, arith, ℕ, suc, Bool, true, false, List, [], ◌∷◌, length, Option}
use Rattle.std.proofs.Common.{Some, None, refl}
use Rattle.std.specs.List.{All, fold}
use Rattle.std.proofs.lemmas.Bool.Decides.{nat_tests}
use Rattle.std.proofs.lemmas.List.Elements.{All-nil, All-cons}
use Rattle.std.specs.Option.{option_or, option_map}
use Rattle.sim_base.specs.declared.moment.Moment.{Moment}
use Rattle.actor_trait.specs.Faults.{asks_past, fault_among, gives_too_many, is_too_many, samples_unknown, when}
use Rattle.actor_trait.specs.Meaning.{Meaning}
use Rattle.sim_model.specs.Stepping.{RisesFrom}
use Rattle.sim_model.specs.Moment.{ask_of, first_fault}
use Rattle.agenda.specs.declared.due.Due.{Due}
use Rattle.sim_model.specs.declared.report.Report.{Report}
use Rattle.sim_model.specs.Births.{bears_past, next_after}
use Rattle.sim_model.proofs.Numbers.{past_room}
use Rattle.sim_model.proofs.Rising.{ask_rises}

not_shown : (b : Bool) (code : ℕ) → when b code ≡ None → b ≡ false
not_shown true code e = cc
not_shown false code e = refl

neither : {X : Type 0} (o p : Option X) → option_or o p ≡ None → (o ≡ None) × (p ≡ None)
neither None p e = (refl, e)
neither (Some x) p e = cc

not_mapped : {X Y : Type 0} (f : X → Y) (o : Option X) → option_map f o ≡ None → o ≡ None
not_mapped f None e = refl
not_mapped f (Some x) e = cc

-- what each part says of an outcome that shows no fault
pub record IsCalm {A : Type 0} (m : Meaning A) (at : Moment) (past : Bool) (r : Report A) : Type 0 where
  pub later : asks_past at.tick r.outcome.ticks ≡ false
  pub few : gives_too_many r.outcome ≡ false
  pub room : past ≡ false
  pub known : samples_unknown (length (m.probes r.outcome.state)) r.outcome.samples ≡ false

pub calm : {A : Type 0} (m : Meaning A) (at : Moment) (past : Bool) (r : Report A) → fault_among m r.outcome at past ≡ None → IsCalm m at past r
calm m at past r none =
    let o = r.outcome in
    let unknown : Option ℕ = when (samples_unknown (length (m.probes o.state)) o.samples) 903 in
    let rest = neither o.fault
    (option_or (when (asks_past at.tick o.ticks) 900) (option_or (when (gives_too_many o) 901) (option_or (when past 902) unknown))) none in
    let later = neither (when (asks_past at.tick o.ticks) 900) (option_or (when (gives_too_many o) 901) (option_or (when past 902) unknown)) rest.1 in
    let few = neither (when (gives_too_many o) 901) (option_or (when past 902) unknown) later.1 in
    let room = neither (when past 902) unknown few.1 in
    record {
      later = not_shown (asks_past at.tick o.ticks) 900 later.0;
      few = not_shown (gives_too_many o) 901 few.0;
      room = not_shown past 902 room.0;
      known = not_shown (samples_unknown (length (m.probes o.state)) o.samples) 903 room.1;
    }

-- where a moment shows no fault, its first actor shows none, and the others show none
pub first_calm : {A : Type 0} (m : Meaning A) (max next : ℕ) (at : Moment) (r : Report A) (rs : List (Report A))
    → first_fault m max next at (r ∷ rs) ≡ None
    → IsCalm m at (bears_past max next (length r.outcome.births)) r × (first_fault m max (next + length r.outcome.births) at rs ≡ None)
first_calm m max next at r rs none =
    let shown = option_map (λ code. record { actor = r.id; code = code })
    (fault_among m r.outcome at (bears_past max next (length r.outcome.births))) in
    let parts = neither shown (first_fault m max (next + length r.outcome.births) at rs) none in (
      calm m at (bears_past max next (length r.outcome.births)) r (not_mapped (λ code. record { actor = r.id; code = code })
          (fault_among m r.outcome at (bears_past max next (length r.outcome.births))) parts.0),
      parts.1,
    )

pub asks_rise : {A : Type 0} (m : Meaning A) (max next : ℕ) (at : Moment) (rs : List (Report A)) (ds : List Due)
    → first_fault m max next at rs ≡ None → RisesFrom (suc at.tick) ds → RisesFrom (suc at.tick) (fold ask_of ds rs)
asks_rise m max next at [] ds none h = h
asks_rise m max next at (r ∷ rs) ds none h =
    let parts = first_calm m max next at r rs none in
    asks_rise m max (next + length r.outcome.births) at rs _ parts.1 (ask_rises at.tick r.id r.outcome.ticks ds parts.0.later h)

first_of_four : (a b c d : Bool) → (a || b || c || d) ≡ false → a ≡ false
first_of_four true b c d e = cc
first_of_four false b c d e = refl

-- nobody sends too much
pub sends_fit : {A : Type 0} (m : Meaning A) (max next : ℕ) (at : Moment) (rs : List (Report A)) → first_fault m max next at rs ≡ None
    → All (λ r. length r.outcome.sends ≤ 1024) rs
sends_fit m max next at [] none = All-nil _
sends_fit m max next at (r ∷ rs) none =
    let parts = first_calm m max next at r rs none in
    let few : is_too_many r.outcome.sends ≡ false = first_of_four (is_too_many r.outcome.sends) (is_too_many r.outcome.ticks)
    (is_too_many r.outcome.births) (is_too_many r.outcome.samples) parts.0.few in
    let fits : length r.outcome.sends ≤ 1024 = grind (arith, nat_tests, few) in
    All-cons (λ q. length q.outcome.sends ≤ 1024) r rs fits (sends_fit m max (next + length r.outcome.births) at rs parts.1)

-- the numbers of the newborn are within the max
pub numbers_fit : {A : Type 0} (m : Meaning A) (max next : ℕ) (at : Moment) (rs : List (Report A)) → first_fault m max next at rs ≡ None
    → next ≤ max + 1 → next_after next rs ≤ max + 1
numbers_fit m max next at [] none le = le
numbers_fit m max next at (r ∷ rs) none le =
    let parts = first_calm m max next at r rs none in
    let room : nat_lt (max + 1 - next) (length r.outcome.births) ≡ false = sym (past_room max next r le) ∙ parts.0.room in
    let fits : next + length r.outcome.births ≤ max + 1 = grind (arith, nat_tests, room, le) in
    numbers_fit m max (next + length r.outcome.births) at rs parts.1 fits
