-- What a vending machine does.
use Rattle.std.specs.Prelude.{◌==◌, ℤ, pos, ◌+ℤ◌, ◌-ℤ◌, int_lt, Bool, not, ◌&&◌, ◌||◌, if◌then◌else◌, List, [], ◌∷◌, ◌++◌, None, codes}
use Rattle.std.specs.Int.{w64, int_min, saturate_signed}
use Rattle.std.specs.List.{fold, list_any}
use Rattle.std.specs.Ordering.{int_eq}
use Rattle.sim_base.specs.declared.ids.ActorId.{ActorId}
use Rattle.actor_trait.specs.Meaning.{Meaning}
use Rattle.actor_trait.specs.Seen.{Seen}
use Rattle.actor_trait.specs.declared.context.Context.{Context}
use Rattle.actor_trait.specs.declared.letter.Letter.{Letter}
use Rattle.actor_trait.specs.declared.outcome.Outcome.{Outcome}
use Rattle.actor_trait.specs.declared.outcome.Sample.{Sample}
use Rattle.soda_model.specs.Letters.{can_to, has_code, refund_to}
use Rattle.soda_model.specs.MachineFields.{MachineFields}
use Rattle.soda_model.specs.declared.machine.Trade.{Trade}

-- whether so much money buys a can
abbrev pub sells : MachineFields → ℤ → Bool
sells s money = int_lt (pos 0) s.stock && not (int_lt money s.price)

-- one can less, and the price taken in
abbrev pub sell : MachineFields → MachineFields
sell s = record s { stock = saturate_signed w64 (s.stock -ℤ pos 1); coins = saturate_signed w64 (s.coins +ℤ s.price) }

-- so many cans more, and never above 1,000,000,000
abbrev pub fill : MachineFields → ℤ → MachineFields
fill s cans =
    if int_lt (pos 0) cans then record s { stock = int_min (saturate_signed w64 (s.stock +ℤ cans)) (pos 1000000000) } else s

-- for enough money a can and the change, else the money again
abbrev pub buy : Trade → ActorId → ℤ → Trade
buy t customer money =
    let s = t.machine in
    if sells s money then record {
      machine = sell s;
      sends = t.sends ++ can_to customer (saturate_signed w64 (money -ℤ s.price)) ∷ [];
    }
    else record t {
      sends = t.sends ++ refund_to customer money (if int_eq s.stock (pos 0) then pos 1 else pos 2) ∷ [];
    }

-- a machine that gets money (10) sells or refuses, and one that gets cans (13) is filled
abbrev pub serve : Trade → Letter → Trade
serve t l =
    if has_code 10 l then buy t l.from l.payload.a
    else (if has_code 13 l then record t { machine = fill t.machine l.payload.a } else t)

-- a letter that a machine acts on
abbrev pub is_asked : Letter → Bool
is_asked l = has_code 10 l || has_code 13 l

-- its stock and its coins
abbrev pub machine_samples : MachineFields → List Sample
machine_samples s = record { probe = 0; value = s.stock } ∷ record { probe = 1; value = s.coins } ∷ []

-- it takes its inbox in, asks for its closing time at its first event, and retires when that comes
abbrev pub machine_acts : MachineFields → Context → Seen → Outcome MachineFields
machine_acts s c e =
    let after = fold serve (record { machine = s; sends = [] }) e.inbox in
    record {
      state = after.machine;
      sends = after.sends;
      ticks = (if e.first && not (s.close_at == 0) then s.close_at ∷ [] else []);
      births = [];
      samples = (if e.first || list_any is_asked e.inbox then machine_samples after.machine else []);
      retire = e.spontaneous;
      fault = None;
    }

abbrev pub machine_meaning : Meaning MachineFields
machine_meaning = record { acts = machine_acts; kind = λ _. codes "machine"; probes = λ _. codes "stock" ∷ codes "coins" ∷ [] }
