-- The table: the fields of each kind that a scenario may name, in order.
use Rattle.std.specs.Prelude.{ℕ, List, [], ◌∷◌, codes, bytes_eq, Bool, false, ◌||◌, Option, Some, None, if◌then◌else◌}
use Rattle.scenario.specs.declared.table.Field.{Field}
use Rattle.scenario.specs.declared.table.Kind.{Kind}
use Rattle.scenario.specs.declared.table.Kind.TheVariants as kind
use Rattle.scenario.specs.declared.table.Least.TheVariants as least
use Rattle.scenario.specs.declared.table.Sort.{Sort}
use Rattle.scenario.specs.declared.table.Sort.TheVariants as sort

pub record Row : Type 0 where
  pub name : List ℕ
  pub sort : Sort

abbrev pub row_of : Field → Row
row_of f = record { name = f.0.now; sort = f.1 }

-- a whole number from one number to another
abbrev pub number_field : List ℕ → ℕ → ℕ → Row
number_field name low high = record { name = name; sort = sort.Number (least.Number low) high }

-- a whole number that is at least that of the field before
abbrev pub later_field : List ℕ → ℕ → Row
later_field name high = record { name = name; sort = sort.Number least.Before high }

-- the name of an actor
abbrev pub actor_field : List ℕ → Row
actor_field name = record { name = name; sort = sort.Actor }

-- the names of 1 to 32 actors
abbrev pub route_field : List ℕ → Row
route_field name = record { name = name; sort = sort.Route }

-- the most that a tick, a period or a sum may be; the most that a price, an offer, a load or an extent may be
abbrev pub most : ℕ
most = 1000000000

abbrev pub most_cans : ℕ
most_cans = 1000000

abbrev pub machine_field : Row
machine_field = actor_field (codes "machine")

abbrev pub tick_field : List ℕ → Row
tick_field name = number_field name 1 most

abbrev pub count_field : List ℕ → Row
count_field name = number_field name 0 most

abbrev pub price_field : List ℕ → Row
price_field name = number_field name 0 most_cans

abbrev pub load_field : List ℕ → Row
load_field name = number_field name 1 most_cans

abbrev pub fields_of : Kind → List Row
fields_of kind.Clock = tick_field (codes "period") ∷ count_field (codes "count") ∷ []
fields_of kind.Ball = actor_field (codes "peer") ∷ tick_field (codes "at") ∷ count_field (codes "hits") ∷ []
fields_of kind.Fuse = count_field (codes "at") ∷ number_field (codes "code") 1 899 ∷ []
fields_of kind.Machine = price_field (codes "stock") ∷ price_field (codes "price") ∷ count_field (codes "close_at") ∷ []
fields_of kind.Customer =
    machine_field ∷ tick_field (codes "period") ∷ count_field (codes "money") ∷ price_field (codes "offer") ∷ []
fields_of kind.RandomCustomer =
    machine_field ∷ tick_field (codes "low") ∷ later_field (codes "high") most ∷ count_field (codes "money")
    ∷ price_field (codes "offer") ∷ []
fields_of kind.Refill = machine_field ∷ load_field (codes "cans") ∷ []
fields_of kind.Depot =
    machine_field ∷ tick_field (codes "at") ∷ number_field (codes "trucks") 1 64 ∷ load_field (codes "cans") ∷ []
fields_of kind.Road = load_field (codes "length") ∷ load_field (codes "room") ∷ []
fields_of kind.Origin =
    route_field (codes "route") ∷ tick_field (codes "period") ∷ number_field (codes "count") 0 100000 ∷ []

abbrev pub kind_name : Kind → List ℕ
kind_name kind.Clock = codes "clock"
kind_name kind.Ball = codes "ball"
kind_name kind.Fuse = codes "fuse"
kind_name kind.Machine = codes "machine"
kind_name kind.Customer = codes "customer"
kind_name kind.RandomCustomer = codes "random_customer"
kind_name kind.Refill = codes "refill"
kind_name kind.Depot = codes "depot"
kind_name kind.Road = codes "road"
kind_name kind.Origin = codes "origin"

abbrev pub kinds : List Kind
kinds =
    kind.Clock ∷ kind.Ball ∷ kind.Fuse ∷ kind.Machine ∷ kind.Customer ∷ kind.RandomCustomer ∷ kind.Refill ∷ kind.Depot
    ∷ kind.Road ∷ kind.Origin ∷ []

abbrev pub kind_among : List Kind → List ℕ → Option Kind
kind_among [] text = None
kind_among (k ∷ ks) text = if bytes_eq text (kind_name k) then Some k else kind_among ks text

-- the kind of a name
abbrev pub kind_named : List ℕ → Option Kind
kind_named text = kind_among kinds text

-- whether this is a field's name
abbrev pub is_named : List ℕ → Field → Bool
is_named key f = bytes_eq key f.0.now

-- whether a field is one of the table's rows
abbrev pub is_among : List Row → List ℕ → Bool
is_among [] key = false
is_among (r ∷ rs) key = bytes_eq key r.name || is_among rs key
