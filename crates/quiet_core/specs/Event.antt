-- The ten events: their conditions in order, and the state after them.
use Rattle.std.specs.Prelude.{ℕ, Bool, not, ◌&&◌, eqb, ltb, List, [], ◌∷◌, length, Result, Ok, Err}
use Rattle.quiet_core.specs.declared.deed.Deed.{Deed}
use Rattle.quiet_core.specs.declared.deed.Deed.TheVariants as deed
use Rattle.quiet_core.specs.declared.event.CoreEvent.{CoreEvent}
use Rattle.quiet_core.specs.declared.event.CoreEvent.TheVariants as event
use Rattle.quiet_core.specs.declared.refused.Condition.TheVariants as condition
use Rattle.quiet_core.specs.declared.refused.Refused.{Refused}
use Rattle.quiet_core.specs.Account.{Shape, Account, account}
use Rattle.quiet_core.specs.Step.{State, word, place, acted, joined, split}
use Rattle.quiet_core.specs.Conditions.{Check, is, up_to, verdict, in_range, asked}

-- what contracts see of a core: the shape of its round, its words and its accounts
pub record Standing : Type 0 where
  pub shape : Shape
  pub state : State

-- a hand does something, takes in another hand, or gives weight to another
pub data Move : Type 0 where
  does : ℕ → Deed → Move
  joins : ℕ → ℕ → Move
  splits : ℕ → ℕ → Move

abbrev pub move : CoreEvent → Move
move (event.Claim h m) = does h (deed.Claim m)
move (event.Raise h m i n) = does h (deed.Raise m i n)
move (event.Post h m i to n) = does h (deed.Post m i to n)
move (event.Done h m i) = does h (deed.Done m i)
move (event.Collect h n) = does h (deed.Collect n)
move (event.Look h m n) = does h (deed.Look m n)
move (event.Ack h m n k) = does h (deed.Ack m n k)
move (event.Climb h c) = does h (deed.Climb c)
move (event.Join h g) = joins h g
move (event.Split h g) = splits h g

abbrev pub is_hand : State → ℕ → Bool
is_hand s h = ltb h (length s.accounts)

abbrev pub account_of : State → ℕ → Account
account_of s h = account s.accounts h

abbrev pub has_weight : State → ℕ → Check
has_weight s h = up_to condition.HasWeight 1 (account_of s h).weight

abbrev pub conditions : Shape → State → Move → List Check
conditions t s (does h d) = is condition.InRange (is_hand s h && in_range t d) ∷ has_weight s h ∷ asked d (account_of s h)
conditions t s (joins h g) = is condition.InRange (is_hand s h && is_hand s g) ∷ has_weight s h ∷ has_weight s g ∷ is condition.Apart (not (eqb g h)) ∷ []
conditions t s (splits h g) = is condition.InRange (is_hand s h && is_hand s g) ∷ has_weight s h ∷ is condition.Apart (not (eqb g h))
    ∷ up_to condition.TwoWeights 2 (account_of s h).weight ∷ is condition.Weightless (eqb (account_of s g).weight 0) ∷ []

-- the number that is found at the word, and the state after the move, where the conditions hold
abbrev pub found : Shape → State → Move → ℕ
found t s (does h d) = word s (place t d)
found t s (joins h g) = 0
found t s (splits h g) = 0

abbrev pub moved : Shape → State → Move → State
moved t s (does h d) = acted t h (account_of s h) d s
moved t s (joins h g) = joined t h (account_of s h) g (account_of s g) s
moved t s (splits h g) = split t h (account_of s h) g s

abbrev pub if_allowed : {A : Type 0} → Result (Unit {0}) Refused → A → A → A
if_allowed (Ok _) x y = x
if_allowed (Err _) x y = y

-- the answer to an event, and the state after it: a refusal changes nothing
abbrev pub answered : Result (Unit {0}) Refused → ℕ → Result ℕ Refused
answered (Ok _) x = Ok x
answered (Err r) x = Err r

abbrev pub answer : Standing → CoreEvent → Result ℕ Refused
answer c e = answered (verdict (conditions c.shape c.state (move e))) (found c.shape c.state (move e))

abbrev pub stepped : Standing → Move → Standing
stepped c m = record c { state = if_allowed (verdict (conditions c.shape c.state m)) (moved c.shape c.state m) c.state }

abbrev pub after_event : Standing → CoreEvent → Standing
after_event c e = stepped c (move e)
