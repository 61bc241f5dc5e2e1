-- What customers, machines and refills write to one another.
use Rattle.std.specs.Prelude.{ℕ, ◌==◌, ℤ, pos, Bool}
use Rattle.sim_base.specs.declared.ids.ActorId.{ActorId}
use Rattle.actor_trait.specs.declared.letter.Letter.{Letter}
use Rattle.actor_trait.specs.declared.letter.Parcel.{Parcel}

-- a letter with a code and two numbers
abbrev pub parcel : ActorId → ℕ → ℤ → ℤ → Parcel
parcel to code a b = record { to = to; payload = record { code = code; a = a; b = b } }

-- 10: here is money for a can
abbrev pub offer_to : ActorId → ℤ → Parcel
offer_to machine money = parcel machine 10 money (pos 0)

-- 11: here is a can, and the change
abbrev pub can_to : ActorId → ℤ → Parcel
can_to customer change = parcel customer 11 change (pos 0)

-- 12: here is the money again, since the stock is out (1) or the price isn't met (2)
abbrev pub refund_to : ActorId → ℤ → ℤ → Parcel
refund_to customer money cause = parcel customer 12 money cause

-- 13: here are cans
abbrev pub fill_to : ActorId → ℤ → Parcel
fill_to machine cans = parcel machine 13 cans (pos 0)

-- whether a letter has this code
abbrev pub has_code : ℕ → Letter → Bool
has_code code l = l.payload.code == code
