-- The generated scenarios: groups of ten actors, of which each leads to the next and the last to the first.
use Rattle.std.specs.Prelude.{ℕ, zero, suc, ◌+◌, ◌*◌, ◌%◌, pos, true, List, [], ◌∷◌, ◌++◌, codes}
use Rattle.std.specs.Fmt.{decimal}
use Rattle.result_store.specs.RuleParts.{RuleParts}
use Rattle.sim_base.specs.declared.ids.ActorId.{ActorId}
use Rattle.sim_model.specs.declared.setup.Start.{Start}
use Rattle.scenario.specs.ScenarioParts.{ScenarioParts}
use Rattle.scenario.specs.declared.any_actor.AnyActor.{AnyActor}
use Rattle.scenario.specs.declared.any_actor.AnyActor.TheVariants as any

-- a letter, `_`, and the number of a group
abbrev pub numbered : ℕ → ℕ → List ℕ
numbered letter g = letter ∷ 95 ∷ decimal g

abbrev pub named : ℕ → ℕ → AnyActor → Start AnyActor
named letter g state = record { name = numbered letter g; state = state }

-- the actor at a place in a group, from 1
abbrev pub member : ℕ → ℕ → ActorId
member g place = record { 0 = 10 * g + place }

abbrev pub machine : AnyActor
machine = any.Machine (record { stock = pos 20; price = pos 2; close_at = 0; coins = pos 0 })

abbrev pub road : ℕ → ℕ → AnyActor
road long room = any.Road (record { length = pos long; room = pos room; cars = pos 0; queue = [] })

abbrev pub origin : List ActorId → AnyActor
origin route = any.Origin (record { route = route; period = 7; count = 5; left = 5; born = pos 0 })

abbrev pub customer : ActorId → ℕ → AnyActor
customer at offer = any.Customer (record { machine = at; period = 10; money = pos 100; offer = pos offer; cans = pos 0 })

abbrev pub random_customer : ActorId → ℕ → ℕ → ℕ → AnyActor
random_customer at low high offer =
    any.RandomCustomer (record { machine = at; low = low; high = high; money = pos 60; offer = pos offer; cans = pos 0 })

abbrev pub depot : ActorId → AnyActor
depot at = any.Depot (record { machine = at; at = 40; trucks = 2; cans = pos 10; born = pos 0 })

abbrev pub clock : AnyActor
clock = any.Clock (record { period = 25; count = pos 4; beats = pos 0 })

-- the ten actors of a group, and the group that it leads to
abbrev pub group : ℕ → ℕ → List (Start AnyActor)
group g h =
    named 109 g machine
    ∷ named 97 g (road (3 + g % 5) 2)
    ∷ named 98 g (road 2 1)
    ∷ named 111 g (origin (member g 2 ∷ member g 3 ∷ member h 2 ∷ []))
    ∷ named 99 g (customer (member g 1) 2)
    ∷ named 100 g (customer (member h 1) 3)
    ∷ named 101 g (random_customer (member g 1) 1 20 2)
    ∷ named 102 g (random_customer (member h 1) 5 15 5)
    ∷ named 119 g (depot (member g 1))
    ∷ named 107 g clock
    ∷ []

-- the first groups of n
abbrev pub first_groups : ℕ → ℕ → List (Start AnyActor)
first_groups n zero = []
first_groups n (suc g) = first_groups n g ++ group g ((g + 1) % n)

abbrev pub rule : List ℕ → RuleParts
rule pattern = record { keeps = true; pattern = pattern }

-- n groups
abbrev pub generated : ℕ → ScenarioParts
generated n = record {
  format = 1;
  setup = record {
    seed = n;
    last_tick = 100;
    diasca_limit = 1000;
    max_actors = 200000;
    actors = first_groups n n;
    urgent = [];
  };
  rules = rule (codes "*.trip") ∷ rule (codes "*.stock") ∷ rule (codes "*.cars") ∷ [];
  texts = codes "+*.trip" ∷ codes "+*.stock" ∷ codes "+*.cars" ∷ [];
}
