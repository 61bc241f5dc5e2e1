-- What a hand keeps, through deeds, joins and splits.
use Rattle.std.proofs.Common.{◌≡◌, ℕ, zero, suc, suc-mul, ◌+◌, ◌-◌, ◌*◌, ◌<◌, ◌≤◌, true, false, List, [], ◌∷◌, eqb, ltb, sym, refl, ap, ◌∙◌, subst, arith}
use Rattle.atomic_table.specs.Table.{Me}
use Rattle.quiet_core.specs.Rows.{below, put, put_pair}
use Rattle.quiet_core.specs.Account.{Shape, managers, scheduled, root, parent, Mark, free, fresh, told, reported, twice, Account, blank, mark, acks, has_duty, done, entered}
use Rattle.quiet_core.specs.declared.deed.Deed.{Deed}
use Rattle.quiet_core.specs.declared.deed.Deed.TheVariants as deed
use Rattle.quiet_core.specs.Step.{after, May, put_mark, kept_part, new_part, united}
use Rattle.quiet_core.specs.Balance.{acked_at}
use Rattle.quiet_core.proofs.Sums.{le_sum}
use Rattle.quiet_core.specs.Opening.{Opening}
use Rattle.quiet_core.proofs.Opens.{opening_balance}
use Rattle.quiet_core.proofs.Acks.{acked_le}
use Rattle.quiet_core.proofs.Untouched.{by_test}
use Rattle.quiet_core.proofs.Reached.{reached_field}
use Rattle.atomic_table.specs.Seated.{TableId}
use Rattle.quiescence.specs.Rule.{RoundId, Holding, View, Stands, Did, Plays}
use Rattle.quiescence.specs.Learnt.{Learnt, Disjoint}
use Rattle.quiescence.specs.Counts.{done_at, reported_in, acked_in}
use Rattle.quiescence.specs.Hands.{IsHand}
use Rattle.quiescence.proofs.Stands.{stands_after, kept_stands, new_stands, less_stands, one_stands}
use Rattle.quiescence.proofs.Reports.{reports, acknowledges, reported_after, acked_after, reported_none, acked_in_none, reported_both, acked_both}
use Rattle.quiescence.proofs.Learns.{apart, learnt, duty_below}

pub done_entered : (k : Mark) → done k ≤ entered k
done_entered free = omega arith
done_entered fresh = omega arith
done_entered (told k) = omega arith
done_entered reported = omega arith
done_entered twice = omega arith

-- no deed changes the weight
weight_after : (t : Shape) (d : Deed) (x : ℕ) (a : Account) → (after t d x a).weight ≡ a.weight
weight_after t (deed.Claim m) x a = by_test (λ b. b.weight ≡ a.weight) (ltb x (scheduled t m)) (put_mark a m x fresh) (record a { exhausted = put false a.exhausted m true }) (λ _. refl) (λ _. refl)
weight_after t (deed.Raise m i n) x a = refl
weight_after t (deed.Post m i to n) x a = refl
weight_after t (deed.Done m i) x a = reached_field (λ (b : Account). b.weight) t m (x - 1) (put_mark a m i reported) refl refl
weight_after t (deed.Collect n) x a = by_test (λ b. b.weight ≡ a.weight) (eqb x 0) (record a { collected = put 0 a.collected n 1 }) a (λ _. refl) (λ _. refl)
weight_after t (deed.Look m n) x a = refl
weight_after t (deed.Ack m n k) x a = reached_field (λ (b : Account). b.weight) t m (x - k) (record a { acked = put_pair a.acked m n (acks a m n + k) }) refl refl
weight_after t (deed.Climb c) x a = reached_field (λ (b : Account). b.weight) t (parent t c) (x - 1) (record a { duties = put false a.duties c false }) refl refl

-- after a deed
pub hand_after : (t : Shape) (d : Deed) (me me' : Me (Unit {0}) View) (x r k r' k' : ℕ) → IsHand t me r k → May t d me.0.account → Plays t d me x me' → r' ≡ r + reports d → k' ≡ k + acknowledges d → IsHand t me' r' k'
hand_after t d me me' x r k r' k' h may p er ek = record {
  no_slot = p.0 ∙ h.no_slot;
  has_weight = let e = ap (λ (b : Account). b.weight) p.2.account ∙ weight_after t d x me.0.account in let o = h.has_weight in omega arith;
  stands = stands_after t d me.0.account x me'.0.account may p.2;
  reported_is = let e = reported_after t d me.0.account x me'.0.account may p.2 in let o = h.reported_is in omega arith;
  acked_is = let e = acked_after t d me.0.account x me'.0.account may p.2 in let o = h.acked_is in omega arith;
}

-- what a call knows, where its hand does d: what is seen of the hand, that it is of the round, and that it may
module _ (r : RoundId) (d : Deed) (table : TableId) (me me' : Me (Unit {0}) View) (x reported acked : ℕ) (v : Holding)
    (seen : record { round = record { table = table; shape = me.0.shape }; account = me.0.account } ≡ v) (of : v.round ≡ r) (may : May r.shape d v.account) (h : IsHand me.0.shape me reported acked) (p : Plays r.shape d me x me') where
  is_about : me.0.shape ≡ r.shape
  is_about = ap (λ (g : Holding). g.round.shape) seen ∙ ap (λ (q : RoundId). q.shape) of

  may_do : May r.shape d me.0.account
  may_do = subst (λ (a : Account). May r.shape d a) (sym (ap (λ (g : Holding). g.account) seen)) may

  pub event : Did r.shape d v.account x me'.0.account
  event = subst (λ (a : Account). Did r.shape d a x me'.0.account) (ap (λ (g : Holding). g.account) seen) p.2

  pub still_hand : (reported' acked' : ℕ) → reported' ≡ reported + reports d → acked' ≡ acked + acknowledges d → IsHand me'.0.shape me' reported' acked'
  still_hand reported' acked' er ek = subst (λ (t : Shape). IsHand t me' reported' acked') (sym (p.1 ∙ is_about))
      (hand_after r.shape d me me' x reported acked reported' acked' (subst (λ (t : Shape). IsHand t me reported acked) is_about h) may_do p er ek)

  pub now_stands : Stands r.shape me'.0.account
  now_stands = stands_after r.shape d me.0.account x me'.0.account may_do p.2

  pub now_learnt : Learnt r.shape me'.0.account
  now_learnt = learnt r.shape me'.0.account now_stands

-- a hand has reported no more than are scheduled, and acknowledged no more than was posted
pub done_most : (f : ℕ → ℕ) (n : ℕ) → ((k : ℕ) → f k ≤ 1) → below f n ≤ n
done_most f zero h = omega arith
done_most f (suc n) h = let r = done_most f n h in let o = h n in omega arith

pub below_most : (f : ℕ → ℕ) (n k : ℕ) → ((j : ℕ) → j < n → f j ≤ k) → below f n ≤ n * k
below_most f zero k h = omega arith
below_most f (suc n) k h = let r = below_most f n k (λ j l. h j (omega arith)) in let o = h n (omega arith) in let e = suc-mul n k in omega arith

done_few : (t : Shape) (a : Account) → Stands t a → (m : ℕ) → m < managers t → done_at t a m ≤ 1000000
done_few t a s m lm = let f = s.kept.sized.few_scheduled m lm in let o = done_most (λ i. done (mark a m i)) (scheduled t m) (λ i. let e = (learnt t a s).once m i lm in let d = done_entered (mark a m i) in omega arith) in omega arith

pub few_reported : (t : Shape) (a : Account) → Stands t a → reported_in t a ≤ 16000000
few_reported t a s = let r = below_most (done_at t a) (managers t) 1000000 (done_few t a s) in let m = s.kept.sized.few_managers in omega arith

acked_few : (t : Shape) (a : Account) → Stands t a → (m : ℕ) → m < managers t → acked_at t m a ≤ 1024000000
acked_few t a s m lm = let l = acked_le t s.state s.kept m lm in let o = le_sum (acked_at t m) s.state.accounts s.hand a s.sits in let u = (s.kept.units m lm).letters in let f = s.kept.sized.few_scheduled m lm in omega arith

pub few_acked : (t : Shape) (a : Account) → Stands t a → acked_in t a ≤ 16384000000
few_acked t a s = let r = below_most (λ m. acked_at t m a) (managers t) 1024000000 (acked_few t a s) in let m = s.kept.sized.few_managers in omega arith

-- so the counts of a hand fit their type
module _ (r : RoundId) (d : Deed) (table : TableId) (me me' : Me (Unit {0}) View) (x reported acked : ℕ) (v : Holding)
    (seen : record { round = record { table = table; shape = me.0.shape }; account = me.0.account } ≡ v) (of : v.round ≡ r) (may : May r.shape d v.account) (h : IsHand me.0.shape me reported acked) (p : Plays r.shape d me x me') where
  pub acked_fits : acked + acknowledges d ≤ 16384000000
  acked_fits =
      let i = still_hand r d table me me' x reported acked v seen of may h p (reported + reports d) (acked + acknowledges d) refl refl in
      let e = i.acked_is in let f = few_acked me'.0.shape me'.0.account i.stands in omega arith

-- who holds a duty holds it below the root
pub climb_below : (r : RoundId) (table : TableId) (me : Me (Unit {0}) View) (n k : ℕ) (v : Holding) (c : ℕ)
    → record { round = record { table = table; shape = me.0.shape }; account = me.0.account } ≡ v → v.round ≡ r → May r.shape (deed.Climb c) v.account → IsHand me.0.shape me n k → c < root r.shape
climb_below r table me n k v c seen of may h =
    let is : root me.0.shape ≡ root r.shape = ap (λ (g : Holding). root g.round.shape) seen ∙ ap (λ (q : RoundId). root q.shape) of in
    let l = duty_below me.0.shape me.0.account h.stands c (ap (λ (g : Holding). has_duty g.account c) seen ∙ may.2) in omega arith

-- where one hand takes in another
module _ (r : RoundId) (table table' : TableId) (me me' new : Me (Unit {0}) View) (reported acked reported' acked' : ℕ) (v v' : Holding)
    (seen : record { round = record { table = table; shape = me.0.shape }; account = me.0.account } ≡ v) (seen' : record { round = record { table = table'; shape = me'.0.shape }; account = me'.0.account } ≡ v')
    (of : v.round ≡ r) (of' : v'.round ≡ r) (h : IsHand me.0.shape me reported acked) (h' : IsHand me'.0.shape me' reported' acked')
    (is : new ≡ (record me.0 { account = united me.0.account me'.0.account }, me.1)) (s : Stands r.shape new.0.account) where
  same : me.0.shape ≡ r.shape
  same = ap (λ (g : Holding). g.round.shape) seen ∙ ap (λ (q : RoundId). q.shape) of

  same' : me'.0.shape ≡ r.shape
  same' = ap (λ (g : Holding). g.round.shape) seen' ∙ ap (λ (q : RoundId). q.shape) of'

  joint_is : new.0.account ≡ united me.0.account me'.0.account
  joint_is = ap (λ (m : Me (Unit {0}) View). m.0.account) is

  were_apart : Disjoint r.shape me.0.account me'.0.account
  were_apart = apart r.shape me.0.account me'.0.account (subst (λ (a : Account). Stands r.shape a) joint_is s)

  pub met_apart : Disjoint r.shape v.account v'.account
  met_apart = subst (λ (z : Account × Account). Disjoint r.shape z.0 z.1) (λ i. ((seen i).account, (seen' i).account)) were_apart

  pub joint_reported : reported + reported' ≡ reported_in r.shape new.0.account
  joint_reported = let e = h.reported_is ∙ ap (λ (t : Shape). reported_in t me.0.account) same in let e' = h'.reported_is ∙ ap (λ (t : Shape). reported_in t me'.0.account) same' in
      let b = reported_both r.shape me.0.account me'.0.account were_apart in let n = ap (λ (a : Account). reported_in r.shape a) joint_is in omega arith

  pub joint_acked : acked + acked' ≡ acked_in r.shape new.0.account
  joint_acked = let e = h.acked_is ∙ ap (λ (t : Shape). acked_in t me.0.account) same in let e' = h'.acked_is ∙ ap (λ (t : Shape). acked_in t me'.0.account) same' in
      let b = acked_both r.shape me.0.account me'.0.account in let n = ap (λ (a : Account). acked_in r.shape a) joint_is in omega arith

  pub joint_reported_fits : reported + reported' ≤ 16000000
  joint_reported_fits = let e = joint_reported in let f = few_reported r.shape new.0.account s in omega arith

  pub joint_acked_fits : acked + acked' ≤ 16384000000
  joint_acked_fits = let e = joint_acked in let f = few_acked r.shape new.0.account s in omega arith

  pub joint_hand : IsHand new.0.shape new (reported + reported') (acked + acked')
  joint_hand = subst (λ (t : Shape). IsHand t new (reported + reported') (acked + acked')) (sym (ap (λ (m : Me (Unit {0}) View). m.0.shape) is ∙ same)) record {
    no_slot = ap (λ (m : Me (Unit {0}) View). m.1) is ∙ h.no_slot;
    has_weight = let e = ap (λ (a : Account). a.weight) joint_is in let o = h.has_weight in omega arith;
    stands = s;
    reported_is = joint_reported;
    acked_is = joint_acked;
  }

-- where a hand gives a unit of weight away
module _ (t : Shape) (me : Me (Unit {0}) View) (reported acked : ℕ) (h : IsHand t me reported acked) (two : 2 ≤ me.0.account.weight) where
  pub kept_hand : IsHand t (record me.0 { account = kept_part me.0.account }, me.1) reported acked
  kept_hand = record { no_slot = h.no_slot; has_weight = omega arith; stands = kept_stands t me.0.account h.stands two; reported_is = h.reported_is; acked_is = h.acked_is }

  pub given_hand : IsHand t (record me.0 { account = new_part t me.0.account }, []) 0 0
  given_hand = record { no_slot = refl; has_weight = omega arith; stands = new_stands t me.0.account h.stands two; reported_is = sym (reported_none t); acked_is = sym (acked_in_none t) }

  module _ (is : me.0.account ≡ record (blank t) { weight = me.0.account.weight }) where
    pub less_hand : IsHand t (record me.0 { account = record (blank t) { weight = me.0.account.weight - 1 } }, me.1) reported acked
    less_hand = record {
      no_slot = h.no_slot;
      has_weight = omega arith;
      stands = less_stands t me.0.account h.stands two is;
      reported_is = h.reported_is ∙ ap (λ (a : Account). reported_in t a) is;
      acked_is = h.acked_is ∙ ap (λ (a : Account). acked_in t a) is;
    }

    pub one_hand : IsHand t (record me.0 { account = record (blank t) { weight = 1 } }, []) 0 0
    one_hand = record { no_slot = refl; has_weight = omega arith; stands = one_stands t me.0.account h.stands two is; reported_is = sym (reported_none t); acked_is = sym (acked_in_none t) }

-- the first hand, which has the whole weight
pub first_hand : (t : Shape) (words : List ℕ) → Opening t words → 1 ≤ t.hands → IsHand t (record { shape = t; account = record (blank t) { weight = t.hands } }, []) 0 0
first_hand t words o one = record {
  no_slot = refl;
  has_weight = one;
  stands = record { state = record { words = words; accounts = record (blank t) { weight = t.hands } ∷ [] }; hand = 0; kept = opening_balance t words o; sits = refl };
  reported_is = sym (reported_none t);
  acked_is = sym (acked_in_none t);
}
