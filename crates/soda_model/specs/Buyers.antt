-- What every customer does, however long it waits.
use Rattle.std.specs.Prelude.{ℕ, ◌+◌, ◌-◌, ◌^◌, ◌==◌, min, ℤ, pos, ◌+ℤ◌, ◌-ℤ◌, int_lt, Bool, false, not, ◌&&◌, ◌||◌, if◌then◌else◌, List, [], ◌∷◌, ◌++◌, None}
use Rattle.std.specs.Int.{w64, saturate_signed}
use Rattle.std.specs.List.{fold, list_any}
use Rattle.sim_base.specs.declared.ids.ActorId.{ActorId}
use Rattle.actor_trait.specs.Seen.{Seen}
use Rattle.actor_trait.specs.declared.context.Context.{Context}
use Rattle.actor_trait.specs.declared.letter.Letter.{Letter}
use Rattle.actor_trait.specs.declared.outcome.Outcome.{Outcome}
use Rattle.actor_trait.specs.declared.outcome.Sample.{Sample}
use Rattle.soda_model.specs.Letters.{has_code, offer_to}
use Rattle.soda_model.specs.declared.buyer.Buyer.{Buyer}

-- whether it buys at this event: its tick came, and it has the money
abbrev pub buys : Buyer → Seen → Bool
buys b e = e.spontaneous && not (int_lt b.money b.offer)

-- its offer leaves its money
abbrev pub pay : Buyer → Buyer
pay b = record b { money = saturate_signed w64 (b.money -ℤ b.offer) }

-- money that comes back, as change or as a refund
abbrev pub with_money : Buyer → ℤ → Buyer
with_money b money = record b { money = saturate_signed w64 (b.money +ℤ money) }

-- one can more
abbrev pub with_can : Buyer → Buyer
with_can b = record b { cans = saturate_signed w64 (b.cans +ℤ pos 1) }

-- a can (11) or a refund (12) from its own machine
abbrev pub is_answer : ActorId → Letter → Bool
is_answer machine l = (l.from.0 == machine.0) && (has_code 11 l || has_code 12 l)

-- with a can comes the change, with a refund the money
abbrev pub answer : Buyer → Letter → Buyer
answer b l =
    if is_answer b.machine l then with_money (if has_code 11 l then with_can b else b) l.payload.a else b

-- the tick after a wait, at most the last of a u64
abbrev pub tick_after : Context → ℕ → ℕ
tick_after c wait = min (c.now.tick + wait) (2 ^ 64 - 1)

-- that tick at its first event, and where it buys
abbrev pub ask : Context → ℕ → Bool → Bool → List ℕ
ask c wait first buys =
    (if first then tick_after c wait ∷ [] else []) ++ (if buys then tick_after c wait ∷ [] else [])

-- its cans and its money
abbrev pub buyer_samples : Buyer → List Sample
buyer_samples b = record { probe = 0; value = b.cans } ∷ record { probe = 1; value = b.money } ∷ []

-- it pays where it buys, then takes its answers in one after the other
abbrev pub buyer_acts : Buyer → ℕ → Context → Seen → Outcome Buyer
buyer_acts b wait c e =
    let after = fold answer (if buys b e then pay b else b) e.inbox in
    record {
      state = after;
      sends = (if buys b e then offer_to b.machine b.offer ∷ [] else []);
      ticks = ask c wait e.first (buys b e);
      births = [];
      samples = (if list_any (is_answer b.machine) e.inbox then buyer_samples after else []);
      retire = false;
      fault = None;
    }

-- the same outcome of another state; nobody is born
abbrev pub with_state : {A B : Type 0} → B → Outcome A → Outcome B
with_state s o = record {
  state = s;
  sends = o.sends;
  ticks = o.ticks;
  births = [];
  samples = o.samples;
  retire = o.retire;
  fault = o.fault;
}
