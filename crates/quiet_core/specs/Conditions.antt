-- The conditions of a deed, in order, and what is answered where one fails.
use Rattle.std.specs.Prelude.{ℕ, ◌+◌, ◌-◌, ◌^◌, Bool, not, ◌&&◌, cond, eqb, ltb, leb, List, [], ◌∷◌, Result, Ok, Err, max, min}
use Rattle.quiet_core.specs.declared.deed.Deed.{Deed}
use Rattle.quiet_core.specs.declared.deed.Deed.TheVariants as deed
use Rattle.quiet_core.specs.declared.refused.Condition.{Condition}
use Rattle.quiet_core.specs.declared.refused.Condition.TheVariants as condition
use Rattle.quiet_core.specs.declared.refused.Refused.{Refused}
use Rattle.quiet_core.specs.Account.{Shape, managers, root, Mark, Account, mark, has_met, posts, knows, acks, collects, has_duty, opened, plain, owing}

-- a condition, whether it holds, and the two numbers of its refusal
pub record Check : Type 0 where
  pub condition : Condition
  pub holds : Bool
  pub have : ℕ
  pub need : ℕ

-- a condition of yes or no
abbrev pub is : Condition → Bool → Check
is c b = record { condition = c; holds = b; have = 0; need = 1 }

-- a bound, x ≤ y. A number past the greatest u64 is shown as that
abbrev pub up_to : Condition → ℕ → ℕ → Check
up_to c x y = record { condition = c; holds = leb x y; have = y; need = min x (2 ^ 64 - 1) }

abbrev pub refused : Check → Refused
refused c = record { condition = c.condition; have = c.have; need = c.need }

-- the first condition that fails is the refusal
abbrev pub verdict : List Check → Result (Unit {0}) Refused
verdict [] = Ok tt
verdict (c ∷ cs) = cond c.holds (verdict cs) (Err (refused c))

-- the managers and nodes of a deed are those of the round
abbrev pub in_range : Shape → Deed → Bool
in_range t (deed.Claim m) = ltb m (managers t)
in_range t (deed.Raise m i n) = ltb m (managers t)
in_range t (deed.Post m i to n) = ltb m (managers t) && ltb to (managers t)
in_range t (deed.Done m i) = ltb m (managers t)
in_range t (deed.Collect n) = ltb n (managers t)
in_range t (deed.Look m n) = ltb m (managers t) && ltb n (managers t)
in_range t (deed.Ack m n k) = ltb m (managers t) && ltb n (managers t)
in_range t (deed.Climb c) = leb c (root t)

-- what a deed asks of an account
abbrev pub to_claim : ℕ → Account → List Check
to_claim m a = is condition.NotCollecting (not a.collecting) ∷ is condition.NotExhausted (not (has_met a m)) ∷ []

abbrev pub to_raise : ℕ → Mark → List Check
to_raise n k = is condition.IsOpen (eqb (opened k) 1) ∷ is condition.NotAnnounced (eqb (plain k) 1) ∷ up_to condition.Amount 1 n ∷ up_to condition.Amount n 1024 ∷ []

abbrev pub to_post : ℕ → Mark → List Check
to_post n k = is condition.IsOpen (eqb (opened k) 1) ∷ up_to condition.Amount 1 n ∷ up_to condition.Amount n (owing k) ∷ []

abbrev pub to_report : Mark → List Check
to_report k = is condition.IsOpen (eqb (opened k) 1) ∷ is condition.AllPosted (eqb (owing k) 0) ∷ []

abbrev pub to_ack : ℕ → ℕ → ℕ → Account → List Check
to_ack m n k a = is condition.Collects (eqb (collects a n) 1) ∷ up_to condition.Amount 1 k ∷ up_to condition.Known (acks a m n + k) (max (knows a m n) (posts a m n)) ∷ []

abbrev pub to_climb : ℕ → Account → List Check
to_climb c a = is condition.HoldsDuty (has_duty a c) ∷ []

abbrev pub asked : Deed → Account → List Check
asked (deed.Claim m) a = to_claim m a
asked (deed.Raise m i n) a = to_raise n (mark a m i)
asked (deed.Post m i to n) a = to_post n (mark a m i)
asked (deed.Done m i) a = to_report (mark a m i)
asked (deed.Collect n) a = []
asked (deed.Look m n) a = []
asked (deed.Ack m n k) a = to_ack m n k a
asked (deed.Climb c) a = to_climb c a
