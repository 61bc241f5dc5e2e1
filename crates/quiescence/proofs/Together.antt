-- What many hands have done together: their joint account as a sum over the list.
use Rattle.std.proofs.Common.{◌≡◌, ℕ, zero, suc, ◌+◌, ◌≤◌, ⊎_elim, Bool, true, false, ◌||◌, List, [], ◌∷◌, sum_by, sym, refl, ap, ◌∙◌, arith, zero-add, add-zero}
use Rattle.std.proofs.lemmas.List.Sums.{sum_by-cons}
use Rattle.std.specs.List.{All}
use Rattle.std.proofs.lemmas.List.Elements.{All-head, All-tail}
use mathlib.Core.Option.{some, some-injective, some-ne-none}
use lib.ListN.{get_elem?}
use Rattle.quiet_core.specs.Account.{no_actors, Mark, free, Account, mark, has_met, posts, acks, collects, has_duty, entered}
use Rattle.quiet_core.specs.Step.{meet, united}
use Rattle.quiet_core.proofs.Sums.{blend_at, pairs_blend}
use Rattle.quiet_core.proofs.Blank.{mark_none, met_none, posts_none, acks_none, collects_none, duty_none}
use Rattle.quiet_core.proofs.Meeting.{meet_apart, mark_united}
use Rattle.quiet_core.proofs.Clearing.{meet_free}
use Rattle.quiet_core.proofs.Parting.{meet_sum}
use Rattle.quiescence.specs.Rule.{Holding}
use Rattle.quiescence.specs.Joint.{joint}

-- a count that is 0 of nobody's account, and is added where two accounts unite, is the sum over the hands
adds_up : (f : Account → ℕ) → f (joint []) ≡ 0 → ((a c : Account) → f (united a c) ≡ f a + f c) → (hs : List Holding) → f (joint hs) ≡ sum_by (λ h. f h.account) hs
adds_up f z u [] = z
adds_up f z u (h ∷ []) = let e = sum_by-cons (λ (g : Holding). f g.account) h [] in omega arith
adds_up f z u (h ∷ g ∷ hs) = let r = adds_up f z u (g ∷ hs) in let e = sum_by-cons (λ (k : Holding). f k.account) h (g ∷ hs) in let s = u (joint (g ∷ hs)) h.account in omega arith

pub posts_united : (a c : Account) (m n : ℕ) → posts (united a c) m n ≡ posts a m n + posts c m n
posts_united a c m n = pairs_blend ◌+◌ zero-add add-zero a.posted c.posted m n

pub acks_united : (a c : Account) (m n : ℕ) → acks (united a c) m n ≡ acks a m n + acks c m n
acks_united a c m n = pairs_blend ◌+◌ zero-add add-zero a.acked c.acked m n

pub collects_united : (a c : Account) (n : ℕ) → collects (united a c) n ≡ collects a n + collects c n
collects_united a c n = blend_at ◌+◌ 0 zero-add add-zero a.collected c.collected n

-- weights, letters posted and acknowledged, and turns
pub joint_weight : (hs : List Holding) → (joint hs).weight ≡ sum_by (λ h. h.account.weight) hs
joint_weight hs = adds_up (λ (a : Account). a.weight) refl (λ a c. refl) hs

pub joint_posts : (m n : ℕ) (hs : List Holding) → posts (joint hs) m n ≡ sum_by (λ h. posts h.account m n) hs
joint_posts m n hs = adds_up (λ (a : Account). posts a m n) (posts_none no_actors m n) (λ a c. posts_united a c m n) hs

pub joint_acks : (m n : ℕ) (hs : List Holding) → acks (joint hs) m n ≡ sum_by (λ h. acks h.account m n) hs
joint_acks m n hs = adds_up (λ (a : Account). acks a m n) (acks_none no_actors m n) (λ a c. acks_united a c m n) hs

pub joint_collects : (n : ℕ) (hs : List Holding) → collects (joint hs) n ≡ sum_by (λ h. collects h.account n) hs
joint_collects n hs = adds_up (λ (a : Account). collects a n) (collects_none no_actors n) (λ a c. collects_united a c n) hs

-- where no actor is entered twice, a count of marks is the sum over the hands: how many are open, left to post, or done
one_of_two : (k l : Mark) → entered (meet k l) ≤ 1 → entered k + entered l ≤ 1
one_of_two k l h = ⊎_elim
    (λ e. let p : entered (meet k l) ≡ entered l = ap (λ (x : Mark). entered (meet x l)) e in let q : entered k ≡ 0 = ap entered e in omega arith)
    (λ e. let p : entered (meet k l) ≡ entered k = ap (λ (x : Mark). entered (meet k x)) e ∙ ap entered (meet_free k) in let q : entered l ≡ 0 = ap entered e in omega arith)
    (meet_apart k l h)

module _ (f : Mark → ℕ) (none : f free ≡ 0) (m i : ℕ) where
  pub joint_marks : (hs : List Holding) → entered (mark (joint hs) m i) ≤ 1 → f (mark (joint hs) m i) ≡ sum_by (λ h. f (mark h.account m i)) hs
  joint_marks [] one = ap f (mark_none no_actors m i) ∙ none
  joint_marks (h ∷ []) one = let e = sum_by-cons (λ (k : Holding). f (mark k.account m i)) h [] in omega arith
  joint_marks (h ∷ g ∷ hs) one =
      let u = mark_united (joint (g ∷ hs)) h.account m i in
      let x = ap entered u in
      let b = one_of_two (mark (joint (g ∷ hs)) m i) (mark h.account m i) (omega arith) in
      let r = joint_marks (g ∷ hs) (omega arith) in
      let s = ap f u ∙ meet_sum f none (mark (joint (g ∷ hs)) m i) (mark h.account m i) b in
      let e = sum_by-cons (λ (k : Holding). f (mark k.account m i)) h (g ∷ hs) in omega arith

-- a flag that is off in nobody's account, and is on after two unite where it was on in one of them
or_off : (x : Bool) → x || false ≡ x
or_off true = refl
or_off false = refl

or_on : (x : Bool) → x || true ≡ true
or_on true = refl
or_on false = refl

module _ (f : Account → Bool) (off : f (joint []) ≡ false) (or : (a c : Account) → f (united a c) ≡ f a || f c) where
  none_has : (hs : List Holding) → All (λ h. f h.account ≡ false) hs → f (joint hs) ≡ false
  none_has [] e = off
  none_has (h ∷ []) e = All-head (λ k. f k.account ≡ false) h [] e
  none_has (h ∷ g ∷ hs) e =
      or (joint (g ∷ hs)) h.account ∙ ap (λ (b : Bool). b || f h.account) (none_has (g ∷ hs) (All-tail (λ k. f k.account ≡ false) h (g ∷ hs) e)) ∙ All-head (λ k. f k.account ≡ false) h (g ∷ hs) e

  one_has : (hs : List Holding) (k : ℕ) (h : Holding) → get_elem? hs k ≡ some h → f h.account ≡ true → f (joint hs) ≡ true
  one_has [] k h at e = absurd (some-ne-none h (sym at))
  one_has (g ∷ []) zero h at e = ap (λ (x : Holding). f x.account) (some-injective g h at) ∙ e
  one_has (g ∷ []) (suc k) h at e = absurd (some-ne-none h (sym at))
  one_has (g ∷ j ∷ hs) zero h at e =
      or (joint (j ∷ hs)) g.account ∙ ap (λ (b : Bool). f (joint (j ∷ hs)) || b) (ap (λ (x : Holding). f x.account) (some-injective g h at) ∙ e) ∙ or_on (f (joint (j ∷ hs)))
  one_has (g ∷ j ∷ hs) (suc k) h at e = or (joint (j ∷ hs)) g.account ∙ ap (λ (b : Bool). b || f g.account) (one_has (j ∷ hs) k h at e)

-- whom the hands met as exhausted: all that one of them did, and no other
met_united : (m : ℕ) (a c : Account) → has_met (united a c) m ≡ has_met a m || has_met c m
met_united m a c = blend_at ◌||◌ false (λ y. refl) or_off a.exhausted c.exhausted m

pub joint_met : (m : ℕ) (hs : List Holding) (k : ℕ) (h : Holding) → get_elem? hs k ≡ some h → has_met h.account m ≡ true → has_met (joint hs) m ≡ true
joint_met m = one_has (λ (a : Account). has_met a m) (met_none no_actors m) (met_united m)

pub joint_not_met : (m : ℕ) (hs : List Holding) → All (λ h. has_met h.account m ≡ false) hs → has_met (joint hs) m ≡ false
joint_not_met m = none_has (λ (a : Account). has_met a m) (met_none no_actors m) (met_united m)

-- the duties that they hold
duty_united : (n : ℕ) (a c : Account) → has_duty (united a c) n ≡ has_duty a n || has_duty c n
duty_united n a c = blend_at ◌||◌ false (λ y. refl) or_off a.duties c.duties n

pub joint_no_duty : (n : ℕ) (hs : List Holding) → All (λ h. has_duty h.account n ≡ false) hs → has_duty (joint hs) n ≡ false
joint_no_duty n = none_has (λ (a : Account). has_duty a n) (duty_none no_actors n) (duty_united n)

pub joint_duty : (n : ℕ) (hs : List Holding) (k : ℕ) (h : Holding) → get_elem? hs k ≡ some h → has_duty h.account n ≡ true → has_duty (joint hs) n ≡ true
joint_duty n = one_has (λ (a : Account). has_duty a n) (duty_none no_actors n) (duty_united n)

-- and Root
pub joint_at_root : (hs : List Holding) (k : ℕ) (h : Holding) → get_elem? hs k ≡ some h → h.account.at_root ≡ true → (joint hs).at_root ≡ true
joint_at_root = one_has (λ (a : Account). a.at_root) refl (λ a c. refl)
