-- The laws that public functions name.
use Rattle.std.proofs.Common.{◌≡◌, ◌≢◌, ℕ, ◌<◌, Bool, true, false, not, ◌&&◌, cond, eqb, ltb, leb, List, [], ◌∷◌, length, Ok, Err, refl, sym, ap, ◌∙◌, arith, ltb-true, leb-true, eqb-true, lt-ltb, eq-eqb, true≢false, ne_eqb}
use Rattle.std.proofs.lemmas.Bool.{le-leb}
use mathlib.Core.Option.{some}
use Rattle.quiet_core.specs.declared.deed.Deed.{Deed}
use Rattle.quiet_core.specs.declared.deed.Deed.TheVariants as deed
use Rattle.quiet_core.specs.Account.{Shape, managers, root, Account, Mark, blank, opened, plain}
use Rattle.quiet_core.specs.Step.{State, May}
use Rattle.quiet_core.specs.Balance.{Balance}
use Rattle.quiet_core.specs.Conditions.{Check, refused, verdict}
use Rattle.quiet_core.specs.Event.{Move, does, joins, splits, conditions, moved, account_of, is_hand}
use Rattle.quiet_core.specs.Laws.{Allowed, MovesKeepBalance, RootIsQuiet}
use Rattle.quiet_core.proofs.Conditions.{AllHold, all_hold, and_both, was_not, allowed}
use Rattle.quiet_core.proofs.Allowed.{sits}
use Rattle.quiet_core.proofs.Keeps.{keeps}
use Rattle.quiet_core.proofs.Parting.{join_keeps}
use Rattle.quiet_core.proofs.Splitting.{split_keeps}
use Rattle.quiet_core.proofs.Quieted.{root_quiet}

differ : (h g : ℕ) → not (eqb g h) ≡ true → g ≢ h
differ h g e q = true≢false (sym (eq-eqb g h q) ∙ was_not (eqb g h) e)

-- where no condition fails, the move is allowed
pub is_allowed : (t : Shape) (s : State) (m : Move) → verdict (conditions t s m) ≡ Ok tt → Allowed t s m
is_allowed t s (does h d) e = allowed t s h d e
is_allowed t s (joins h g) e = let c = all_hold (conditions t s (joins h g)) e in let r = and_both (is_hand s h) (is_hand s g) c.0 in
    (ltb-true _ _ r.0, ltb-true _ _ r.1, leb-true _ _ c.1.0, leb-true _ _ c.1.1.0, differ h g c.1.1.1.0)
is_allowed t s (splits h g) e = let c = all_hold (conditions t s (splits h g)) e in let r = and_both (is_hand s h) (is_hand s g) c.0 in
    (ltb-true _ _ r.0, ltb-true _ _ r.1, leb-true _ _ c.1.1.1.0, differ h g c.1.1.0, eqb-true _ _ c.1.1.1.1.0)

-- an allowed move keeps the balance
allowed_keeps : (t : Shape) (s : State) (m : Move) → Balance t s → Allowed t s m → Balance t (moved t s m)
allowed_keeps t s (does h d) w a = keeps t s h (account_of s h) w (sits s.accounts h a.0) d a.1
allowed_keeps t s (joins h g) w a = join_keeps t s h g (account_of s h) (account_of s g) w (sits s.accounts h a.0) a.4 (sits s.accounts g a.1) a.2
allowed_keeps t s (splits h g) w a = let empty : account_of s g ≡ blank t = w.weights.spent g (account_of s g) (sits s.accounts g a.1) a.4 in
    split_keeps t s h g (account_of s h) w (sits s.accounts h a.0) a.3 (sits s.accounts g a.1 ∙ ap (λ (c : Account). some c) empty) a.2

pub moves_keep : MovesKeepBalance
moves_keep t s m w e = allowed_keeps t s m w (is_allowed t s m e)

pub root_tells : RootIsQuiet
root_tells t s h w l e = root_quiet t s h (account_of s h) w (sits s.accounts h l) e

-- and the other way round
passes : (cs : List Check) → AllHold cs → verdict cs ≡ Ok tt
passes [] h = refl
passes (c ∷ cs) h = ap (λ (b : Bool). cond b (verdict cs) (Err (refused c))) h.0 ∙ passes cs h.1

both : (a b : Bool) → a ≡ true → b ≡ true → a && b ≡ true
both a b e f = ap (λ (x : Bool). x && b) e ∙ f

is_not : (b : Bool) → b ≡ false → not b ≡ true
is_not b e = ap not e

module _ (t : Shape) (s : State) (h : ℕ) (lh : h < length s.accounts) where
  hand : is_hand s h ≡ true
  hand = lt-ltb h (length s.accounts) lh

  abbrev a : Account
  a = account_of s h

  one : (x y : ℕ) → x < y → is_hand s h && ltb x y ≡ true
  one x y l = both (is_hand s h) (ltb x y) hand (lt-ltb x y l)

  two : (x y z : ℕ) → x < z → y < z → is_hand s h && (ltb x z && ltb y z) ≡ true
  two x y z l k = both (is_hand s h) (ltb x z && ltb y z) hand (both (ltb x z) (ltb y z) (lt-ltb x z l) (lt-ltb y z k))

  deed_holds : (d : Deed) → May t d a → AllHold (conditions t s (does h d))
  deed_holds (deed.Claim m) may = (one m (managers t) may.0, (le-leb _ _ may.1, (is_not _ may.2, (is_not _ may.3, tt))))
  deed_holds (deed.Raise m i n) may = (one m (managers t) may.0, (le-leb _ _ may.1, (ap (λ (k : Mark). eqb (opened k) 1) may.2, (ap (λ (k : Mark). eqb (plain k) 1) may.2, (le-leb _ _ may.3, (le-leb _ _ may.4, tt))))))
  deed_holds (deed.Post m i to n) may = (two m to (managers t) may.0 may.1, (le-leb _ _ may.2, (eq-eqb _ _ may.3, (le-leb _ _ may.4, (le-leb _ _ may.5, tt)))))
  deed_holds (deed.Done m i) may = (one m (managers t) may.0, (le-leb _ _ may.1, (eq-eqb _ _ may.2, (eq-eqb _ _ may.3, tt))))
  deed_holds (deed.Collect n) may = (one n (managers t) may.0, (le-leb _ _ may.1, tt))
  deed_holds (deed.Look m n) may = (two m n (managers t) may.0 may.1, (le-leb _ _ may.2, tt))
  deed_holds (deed.Ack m n k) may = (two m n (managers t) may.0 may.1, (le-leb _ _ may.2, (eq-eqb _ _ may.3, (le-leb _ _ may.4, (le-leb _ _ may.5, tt)))))
  deed_holds (deed.Climb c) may = (both (is_hand s h) (leb c (root t)) hand (le-leb _ _ may.0), (le-leb _ _ may.1, (may.2, tt)))

apart : (h g : ℕ) → g ≢ h → not (eqb g h) ≡ true
apart h g ne = is_not (eqb g h) (ne_eqb g h ne)

all_hold_where : (t : Shape) (s : State) (m : Move) → Allowed t s m → AllHold (conditions t s m)
all_hold_where t s (does h d) a = deed_holds t s h a.0 d a.1
all_hold_where t s (joins h g) a = (both (is_hand s h) (is_hand s g) (lt-ltb _ _ a.0) (lt-ltb _ _ a.1), (le-leb _ _ a.2, (le-leb _ _ a.3, (apart h g a.4, tt))))
all_hold_where t s (splits h g) a = let w = a.2 in
    (both (is_hand s h) (is_hand s g) (lt-ltb _ _ a.0) (lt-ltb _ _ a.1), (le-leb 1 (account_of s h).weight (omega arith), (apart h g a.3, (le-leb _ _ a.2, (eq-eqb _ _ a.4, tt)))))

pub is_not_refused : (t : Shape) (s : State) (m : Move) → Allowed t s m → verdict (conditions t s m) ≡ Ok tt
is_not_refused t s m a = passes (conditions t s m) (all_hold_where t s m a)
