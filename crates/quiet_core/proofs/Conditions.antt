-- Where no condition fails, the deed may be done.
use Rattle.std.proofs.Common.{◌≡◌, ℕ, ◌<◌, length, leb, Bool, true, false, not, ◌&&◌, cond, ltb, List, [], ◌∷◌, Result, Ok, Err, refl, sym, arith, ltb-true, leb-true, eqb-true}
use Rattle.quiet_core.specs.declared.deed.Deed.{Deed}
use Rattle.quiet_core.specs.declared.deed.Deed.TheVariants as deed
use Rattle.quiet_core.specs.Account.{Shape, managers, root, Mark, free, fresh, told, reported, twice, Account, plain}
use Rattle.quiet_core.specs.declared.refused.Refused.{Refused}
use Rattle.quiet_core.specs.Step.{State, May}
use Rattle.quiet_core.specs.Conditions.{Check, refused, verdict}
use Rattle.quiet_core.specs.Event.{does, conditions, account_of}

passed : (b : Bool) (c : Refused) (r : Result (Unit {0}) Refused) → cond b r (Err c) ≡ Ok tt → (b ≡ true) × (r ≡ Ok tt)
passed true c r e = (refl, e)
passed false c r e = cc

abbrev pub AllHold : List Check → Type 0
AllHold [] = Unit {0}
AllHold (c ∷ cs) = (c.holds ≡ true) × AllHold cs

pub all_hold : (cs : List Check) → verdict cs ≡ Ok tt → AllHold cs
all_hold [] e = tt
all_hold (c ∷ cs) e = let p = passed c.holds (refused c) (verdict cs) e in (p.0, all_hold cs p.1)

pub was_not : (b : Bool) → not b ≡ true → b ≡ false
was_not true e = sym e
was_not false e = refl

pub and_both : (a b : Bool) → a && b ≡ true → (a ≡ true) × (b ≡ true)
and_both true b e = (refl, e)
and_both false b e = cc

is_fresh : (k : Mark) → plain k ≡ 1 → k ≡ fresh
is_fresh free e = absurd (omega arith)
is_fresh fresh e = refl
is_fresh (told k) e = absurd (omega arith)
is_fresh reported e = absurd (omega arith)
is_fresh twice e = absurd (omega arith)

module _ (t : Shape) (s : State) (h : ℕ) where
  abbrev a : Account
  a = account_of s h

  abbrev hand : Bool
  hand = ltb h (length s.accounts)

  -- where all conditions hold, the hand is one of the round and may do the deed
  pub allowed : (d : Deed) → verdict (conditions t s (does h d)) ≡ Ok tt → (h < length s.accounts) × May t d a
  allowed (deed.Claim m) e = let c = all_hold (conditions t s (does h (deed.Claim m))) e in let r = and_both hand (ltb m (managers t)) c.0 in
      (ltb-true _ _ r.0, (ltb-true _ _ r.1, leb-true _ _ c.1.0, was_not _ c.1.1.0, was_not _ c.1.1.1.0))
  allowed (deed.Raise m i n) e = let c = all_hold (conditions t s (does h (deed.Raise m i n))) e in let r = and_both hand (ltb m (managers t)) c.0 in
      (ltb-true _ _ r.0, (ltb-true _ _ r.1, leb-true _ _ c.1.0, is_fresh _ (eqb-true _ _ c.1.1.1.0), leb-true _ _ c.1.1.1.1.0, leb-true _ _ c.1.1.1.1.1.0))
  allowed (deed.Post m i to n) e = let c = all_hold (conditions t s (does h (deed.Post m i to n))) e in
      let r = and_both hand (ltb m (managers t) && ltb to (managers t)) c.0 in let b = and_both (ltb m (managers t)) (ltb to (managers t)) r.1 in
      (ltb-true _ _ r.0, (ltb-true _ _ b.0, ltb-true _ _ b.1, leb-true _ _ c.1.0, eqb-true _ _ c.1.1.0, leb-true _ _ c.1.1.1.0, leb-true _ _ c.1.1.1.1.0))
  allowed (deed.Done m i) e = let c = all_hold (conditions t s (does h (deed.Done m i))) e in let r = and_both hand (ltb m (managers t)) c.0 in
      (ltb-true _ _ r.0, (ltb-true _ _ r.1, leb-true _ _ c.1.0, eqb-true _ _ c.1.1.0, eqb-true _ _ c.1.1.1.0))
  allowed (deed.Collect n) e = let c = all_hold (conditions t s (does h (deed.Collect n))) e in let r = and_both hand (ltb n (managers t)) c.0 in (ltb-true _ _ r.0, (ltb-true _ _ r.1, leb-true _ _ c.1.0))
  allowed (deed.Look m n) e = let c = all_hold (conditions t s (does h (deed.Look m n))) e in let r = and_both hand (ltb m (managers t) && ltb n (managers t)) c.0 in let b = and_both (ltb m (managers t)) (ltb n (managers t)) r.1 in
      (ltb-true _ _ r.0, (ltb-true _ _ b.0, ltb-true _ _ b.1, leb-true _ _ c.1.0))
  allowed (deed.Ack m n k) e = let c = all_hold (conditions t s (does h (deed.Ack m n k))) e in let r = and_both hand (ltb m (managers t) && ltb n (managers t)) c.0 in let b = and_both (ltb m (managers t)) (ltb n (managers t)) r.1 in
      (ltb-true _ _ r.0, (ltb-true _ _ b.0, ltb-true _ _ b.1, leb-true _ _ c.1.0, eqb-true _ _ c.1.1.0, leb-true _ _ c.1.1.1.0, leb-true _ _ c.1.1.1.1.0))
  allowed (deed.Climb c) e = let k = all_hold (conditions t s (does h (deed.Climb c))) e in let r = and_both hand (leb c (root t)) k.0 in (ltb-true _ _ r.0, (leb-true _ _ r.1, leb-true _ _ k.1.0, k.1.1.0))
