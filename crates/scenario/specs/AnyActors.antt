-- What an actor of any kind does: what its kind does, in its variant.
use Rattle.std.specs.Prelude.{ℕ, List, [], ◌∷◌, map, None, codes}
use Rattle.actor_trait.specs.Balls.{ball_meaning}
use Rattle.actor_trait.specs.Clocks.{clock_meaning}
use Rattle.actor_trait.specs.Fuses.{fuse_meaning}
use Rattle.actor_trait.specs.Meaning.{Meaning}
use Rattle.actor_trait.specs.Seen.{Seen}
use Rattle.actor_trait.specs.declared.bearing.Bearing.{Bearing}
use Rattle.actor_trait.specs.declared.context.Context.{Context}
use Rattle.actor_trait.specs.declared.outcome.Outcome.{Outcome}
use Rattle.road_model.specs.Origins.{origin_bears}
use Rattle.road_model.specs.Roads.{road_meaning}
use Rattle.road_model.specs.Vehicles.{vehicle_meaning}
use Rattle.soda_model.specs.Customers.{customer_meaning}
use Rattle.soda_model.specs.Depots.{depot_bears}
use Rattle.soda_model.specs.Machines.{machine_meaning}
use Rattle.soda_model.specs.RandomCustomers.{random_customer_meaning}
use Rattle.soda_model.specs.Refills.{refill_meaning}
use Rattle.scenario.specs.declared.any_actor.AnyActor.{AnyActor}
use Rattle.scenario.specs.declared.any_actor.AnyActor.TheVariants.{Clock, Ball, Fuse, Machine, Customer, RandomCustomer, Refill, Depot, Road, Origin, Vehicle}

-- the state and each newborn are put into their variant
abbrev pub in_variant : {A : Type 0} → (A → AnyActor) → Outcome A → Outcome AnyActor
in_variant variant o = record {
  state = variant o.state;
  sends = o.sends;
  ticks = o.ticks;
  births = map variant o.births;
  samples = o.samples;
  retire = o.retire;
  fault = o.fault;
}

-- the state and each newborn of a bearing are put into their variants, and it shows no fault
abbrev pub of_bearing : {S N : Type 0} → (S → AnyActor) → (N → AnyActor) → Bearing S N → Outcome AnyActor
of_bearing variant newborn b = record {
  state = variant b.state;
  sends = b.sends;
  ticks = b.ticks;
  births = map newborn b.births;
  samples = b.samples;
  retire = b.retire;
  fault = None;
}

abbrev pub any_acts : AnyActor → Context → Seen → Outcome AnyActor
any_acts (Clock s) c e = in_variant Clock (clock_meaning.acts s c e)
any_acts (Ball s) c e = in_variant Ball (ball_meaning.acts s c e)
any_acts (Fuse s) c e = in_variant Fuse (fuse_meaning.acts s c e)
any_acts (Machine s) c e = in_variant Machine (machine_meaning.acts s c e)
any_acts (Customer s) c e = in_variant Customer (customer_meaning.acts s c e)
any_acts (RandomCustomer s) c e = in_variant RandomCustomer (random_customer_meaning.acts s c e)
any_acts (Refill s) c e = in_variant Refill (refill_meaning.acts s c e)
any_acts (Depot s) c e = of_bearing Depot Refill (depot_bears s c e)
any_acts (Road s) c e = in_variant Road (road_meaning.acts s c e)
any_acts (Origin s) c e = of_bearing Origin Vehicle (origin_bears s c e)
any_acts (Vehicle s) c e = in_variant Vehicle (vehicle_meaning.acts s c e)

abbrev pub any_kind : AnyActor → List ℕ
any_kind (Clock s) = clock_meaning.kind s
any_kind (Ball s) = ball_meaning.kind s
any_kind (Fuse s) = fuse_meaning.kind s
any_kind (Machine s) = machine_meaning.kind s
any_kind (Customer s) = customer_meaning.kind s
any_kind (RandomCustomer s) = random_customer_meaning.kind s
any_kind (Refill s) = refill_meaning.kind s
any_kind (Depot s) = codes "depot"
any_kind (Road s) = road_meaning.kind s
any_kind (Origin s) = codes "origin"
any_kind (Vehicle s) = vehicle_meaning.kind s

abbrev pub any_probes : AnyActor → List (List ℕ)
any_probes (Clock s) = clock_meaning.probes s
any_probes (Ball s) = ball_meaning.probes s
any_probes (Fuse s) = fuse_meaning.probes s
any_probes (Machine s) = machine_meaning.probes s
any_probes (Customer s) = customer_meaning.probes s
any_probes (RandomCustomer s) = random_customer_meaning.probes s
any_probes (Refill s) = refill_meaning.probes s
any_probes (Depot s) = codes "trucks" ∷ []
any_probes (Road s) = road_meaning.probes s
any_probes (Origin s) = codes "sent" ∷ []
any_probes (Vehicle s) = vehicle_meaning.probes s

abbrev pub any_meaning : Meaning AnyActor
any_meaning = record { acts = any_acts; kind = any_kind; probes = any_probes }
