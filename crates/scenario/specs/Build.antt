-- Actors from the contents of their fields, and back.
use Rattle.std.specs.Prelude.{ℕ, pos, unsigned_abs, ◌≤◌, length, List, [], ◌∷◌, Option, Some, None}
use Rattle.scenario.specs.Reading.{least_of, number_in, nobody}
use Rattle.scenario.specs.Table.{Row}
use Rattle.scenario.specs.declared.any_actor.AnyActor.{AnyActor}
use Rattle.scenario.specs.declared.any_actor.AnyActor.TheVariants as any
use Rattle.scenario.specs.declared.contents.Content.{Content}
use Rattle.scenario.specs.declared.contents.Content.TheVariants.{Number, Actor, Route}
use Rattle.scenario.specs.declared.table.Kind.{Kind}
use Rattle.scenario.specs.declared.table.Kind.TheVariants as kind
use Rattle.scenario.specs.declared.table.Sort.{Sort}
use Rattle.scenario.specs.declared.table.Sort.TheVariants as sort

-- a content that a field takes, after one with this number
abbrev pub FitsOne : ℕ → Sort → Content → Type 0
FitsOne before (sort.Number low high) (Number n) = (least_of before low ≤ n) × (n ≤ high)
FitsOne before sort.Actor (Actor a) = Unit {0}
FitsOne before sort.Route (Route r) = (1 ≤ length r) × (length r ≤ 32)
FitsOne before s c = ⊥

abbrev pub Fits : ℕ → List Row → List Content → Type 0
Fits before [] [] = Unit {0}
Fits before (r ∷ rs) (c ∷ cs) = FitsOne before r.sort c × Fits (number_in c) rs cs
Fits before rs cs = ⊥

-- the actor of a kind at its start; of contents that don't fit, any actor
abbrev pub build : Kind → List Content → AnyActor
build kind.Clock (Number period ∷ Number count ∷ []) = any.Clock (record { period = period; count = pos count; beats = pos 0 })
build kind.Ball (Actor peer ∷ Number at ∷ Number hits ∷ []) =
    any.Ball (record { peer = peer; at = at; hits = pos hits; received = pos 0 })
build kind.Fuse (Number at ∷ Number code ∷ []) = any.Fuse (record { at = at; code = code })
build kind.Machine (Number stock ∷ Number price ∷ Number close_at ∷ []) =
    any.Machine (record { stock = pos stock; price = pos price; close_at = close_at; coins = pos 0 })
build kind.Customer (Actor machine ∷ Number period ∷ Number money ∷ Number offer ∷ []) =
    any.Customer (record { machine = machine; period = period; money = pos money; offer = pos offer; cans = pos 0 })
build kind.RandomCustomer (Actor machine ∷ Number low ∷ Number high ∷ Number money ∷ Number offer ∷ []) =
    any.RandomCustomer (record { machine = machine; low = low; high = high; money = pos money; offer = pos offer; cans = pos 0 })
build kind.Refill (Actor machine ∷ Number cans ∷ []) = any.Refill (record { machine = machine; cans = pos cans })
build kind.Depot (Actor machine ∷ Number at ∷ Number trucks ∷ Number cans ∷ []) =
    any.Depot (record { machine = machine; at = at; trucks = trucks; cans = pos cans; born = pos 0 })
build kind.Road (Number long ∷ Number room ∷ []) =
    any.Road (record { length = pos long; room = pos room; cars = pos 0; queue = [] })
build kind.Origin (Route route ∷ Number period ∷ Number count ∷ []) =
    any.Origin (record { route = route; period = period; count = count; left = count; born = pos 0 })
build k cs = any.Refill (record { machine = nobody; cans = pos 0 })

-- what the fields of an actor hold; a scenario names no vehicle
abbrev pub show : AnyActor → List Content
show (any.Clock s) = Number s.period ∷ Number (unsigned_abs s.count) ∷ []
show (any.Ball s) = Actor s.peer ∷ Number s.at ∷ Number (unsigned_abs s.hits) ∷ []
show (any.Fuse s) = Number s.at ∷ Number s.code ∷ []
show (any.Machine s) = Number (unsigned_abs s.stock) ∷ Number (unsigned_abs s.price) ∷ Number s.close_at ∷ []
show (any.Customer s) =
    Actor s.machine ∷ Number s.period ∷ Number (unsigned_abs s.money) ∷ Number (unsigned_abs s.offer) ∷ []
show (any.RandomCustomer s) =
    Actor s.machine ∷ Number s.low ∷ Number s.high ∷ Number (unsigned_abs s.money) ∷ Number (unsigned_abs s.offer) ∷ []
show (any.Refill s) = Actor s.machine ∷ Number (unsigned_abs s.cans) ∷ []
show (any.Depot s) = Actor s.machine ∷ Number s.at ∷ Number s.trucks ∷ Number (unsigned_abs s.cans) ∷ []
show (any.Road s) = Number (unsigned_abs s.length) ∷ Number (unsigned_abs s.room) ∷ []
show (any.Origin s) = Route s.route ∷ Number s.period ∷ Number s.count ∷ []
show (any.Vehicle s) = []

abbrev pub kind_of_actor : AnyActor → Option Kind
kind_of_actor (any.Clock s) = Some kind.Clock
kind_of_actor (any.Ball s) = Some kind.Ball
kind_of_actor (any.Fuse s) = Some kind.Fuse
kind_of_actor (any.Machine s) = Some kind.Machine
kind_of_actor (any.Customer s) = Some kind.Customer
kind_of_actor (any.RandomCustomer s) = Some kind.RandomCustomer
kind_of_actor (any.Refill s) = Some kind.Refill
kind_of_actor (any.Depot s) = Some kind.Depot
kind_of_actor (any.Road s) = Some kind.Road
kind_of_actor (any.Origin s) = Some kind.Origin
kind_of_actor (any.Vehicle s) = None
