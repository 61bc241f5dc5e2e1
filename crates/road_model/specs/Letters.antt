-- What roads and vehicles write to one another, and what tells an origin of a birth.
use Rattle.std.specs.Prelude.{ℕ, ◌==◌, ℤ, pos, Bool, ◌&&◌}
use Rattle.sim_base.specs.declared.ids.ActorId.{ActorId}
use Rattle.actor_trait.specs.declared.letter.Letter.{Letter}
use Rattle.actor_trait.specs.declared.letter.Parcel.{Parcel}

-- a letter with a code and a number
abbrev pub parcel : ActorId → ℕ → ℤ → Parcel
parcel to code a = record { to = to; payload = record { code = code; a = a; b = pos 0 } }

-- 20: the sender would enter the road
abbrev pub enter_to : ActorId → Parcel
enter_to road = parcel road 20 (pos 0)

-- 21: the vehicle is on the road, and so long it drives there
abbrev pub admit_to : ActorId → ℤ → Parcel
admit_to vehicle length = parcel vehicle 21 length

-- 22: the sender is off the road
abbrev pub leave_to : ActorId → Parcel
leave_to road = parcel road 22 (pos 0)

abbrev pub has_code : ℕ → Letter → Bool
has_code code l = l.payload.code == code

-- the balancer, who has the number 0, tells of a birth
abbrev pub is_birth : Letter → Bool
is_birth l = (l.from.0 == 0) && has_code 0 l
