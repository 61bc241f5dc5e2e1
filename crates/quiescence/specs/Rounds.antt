-- The sums over rounds.
use Rattle.std.specs.Prelude.{ℕ, ◌+◌, ◌-◌, ◌^◌, min, sum}
use Rattle.quiescence.specs.Ended.{Closing}

-- how many rounds were closed, how many actors were scheduled in them, and how many letters posted
pub record RoundSums : Type 0 where
  pub rounds : ℕ
  pub scheduled : ℕ
  pub posted : ℕ

abbrev pub no_rounds : RoundSums
no_rounds = record { rounds = 0; scheduled = 0; posted = 0 }

-- a sum that stops at the end of its type
abbrev pub up_to_end : ℕ → ℕ → ℕ
up_to_end x y = min (x + y) (2 ^ 64 - 1)

-- the sums with one closed round more
abbrev pub with_round : RoundSums → Closing → RoundSums
with_round s c = record {
  rounds = up_to_end s.rounds 1;
  scheduled = up_to_end s.scheduled (sum c.scheduled);
  posted = up_to_end s.posted (sum c.posted);
}
