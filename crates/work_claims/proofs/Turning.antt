-- Turns that are tried.
use Rattle.std.proofs.Common.{◌≡◌, ◌≢◌, ℕ, ◌+◌, ◌<◌, ◌≤◌, ◌⊎◌, inl, inr, Bool, true, false, List, [], get_or, refl, sym, ap, ◌∙◌, arith}
use mathlib.Core.Logic.{dite}
use native.Mathlib.Decide.{ℕ_discrete, dec_lt}
use Rattle.quiet_core.specs.Rows.{at_pair, put}
use Rattle.quiet_core.specs.Account.{Account, Shape, acks, collects, managers}
use Rattle.quiet_core.proofs.Sums.{put_here, put_else}
use Rattle.work_claims.specs.Collecting.{IsTurnOf, Stays, Turned}

pub stays_none : (a : Account) → Stays a a
stays_none a = record { weight = refl; collecting = refl; marks = refl; exhausted = refl; posted = refl }

pub stays_trans : (a b c : Account) → Stays a b → Stays b c → Stays a c
stays_trans a b c p q = record {
  weight = q.weight ∙ p.weight;
  collecting = q.collecting ∙ p.collecting;
  marks = q.marks ∙ p.marks;
  exhausted = q.exhausted ∙ p.exhausted;
  posted = q.posted ∙ p.posted;
}

pub stays_collected : (a b : Account) → b ≡ record a { collected = b.collected } → Stays a b
stays_collected a b e = record {
  weight = ap (λ (x : Account). x.weight) e;
  collecting = ap (λ (x : Account). x.collecting) e;
  marks = ap (λ (x : Account). x.marks) e;
  exhausted = ap (λ (x : Account). x.exhausted) e;
  posted = ap (λ (x : Account). x.posted) e;
}

pub turn_else : (a a' : Account) (n k : ℕ) → a' ≡ record a { collected = put 0 a.collected n 1 } → k ≢ n → collects a' k ≡ collects a k
turn_else a a' n k e ne = ap (λ (b : Account). collects b k) e ∙ put_else 0 a.collected n k 1 ne

pub turn_here : (a a' : Account) (n : ℕ) → a' ≡ record a { collected = put 0 a.collected n 1 } → collects a' n ≡ 1
turn_here a a' n e = ap (λ (b : Account). collects b n) e ∙ put_here 0 a.collected n 1

pub turn_same : (a a' : Account) (n : ℕ) → a' ≡ record a { collected = put 0 a.collected n 1 } → a' ≡ record a { collected = a'.collected }
turn_same a a' n e = e ∙ ap (λ (b : Account). record a { collected = b.collected }) (sym e)

-- the same turn, of accounts that collect the same
turn_between : (n : ℕ) (b : Bool) (a c a' c' : Account) → collects a n ≡ collects c n → collects a' n ≡ collects c' n → IsTurnOf n b a a' → IsTurnOf n b c c'
turn_between n true a c a' c' e f t = (sym e ∙ t.0, sym f ∙ t.1)
turn_between n false a c a' c' e f t = sym f ∙ t ∙ e

pub turned_none : (t : Shape) (from : ℕ) (mine : List Bool) (a : Account) → Turned t from from mine mine a a
turned_none t from mine a = record {
  stays = stays_none a;
  known = refl;
  acked = refl;
  duties = refl;
  turns = λ n l u. absurd (omega arith);
  unacked = λ n m l u e lm. absurd (omega arith);
  others = λ n o. (refl, refl);
  own = λ w n l u. absurd (omega arith);
}

-- one more
pub turned_next : (t : Shape) (from n : ℕ) (before mine after : List Bool) (b : Bool) (a d c : Account) → from ≤ n → Turned t from n before mine a d
    → IsTurnOf n b d c → (b ≡ true → (m : ℕ) → m < managers t → acks d m n ≡ 0) → c ≡ record d { collected = c.collected }
    → ((k : ℕ) → k ≢ n → collects c k ≡ collects d k) → (d.weight ≡ t.hands → collects c n ≡ 1)
    → get_or after n false ≡ b → ((k : ℕ) → k ≢ n → get_or after k false ≡ get_or mine k false)
    → Turned t from (n + 1) before after a c
turned_next t from n before mine after b a d c low p turn none same else_ own here apart = record {
  stays = stays_trans a d c p.stays (stays_collected d c same);
  known = ap (λ (x : Account). x.known) same ∙ p.known;
  acked = ap (λ (x : Account). x.acked) same ∙ p.acked;
  duties = ap (λ (x : Account). x.duties) same ∙ p.duties;
  turns = λ k l u. dite (ℕ_discrete k n)
      (λ e. rw e (rw here (turn_between n b d a c c (p.others n (inr (omega arith))).1 refl turn)))
      (λ ne. rw (apart k ne) (turn_between k (get_or mine k false) a a d c refl (sym (else_ k ne)) (p.turns k l (omega arith))));
  unacked = λ k m l u e lm. dite (ℕ_discrete k n)
      (λ is. rw is (ap (λ (ps : List (List ℕ)). at_pair ps m n) (sym p.acked)
      ∙ none (sym here ∙ ap (λ j. get_or after j false) (sym is) ∙ e) m lm))
      (λ ne. p.unacked k m l (omega arith) (sym (apart k ne) ∙ e) lm);
  others = λ k o. let ne : k ≢ n = (λ e. out k o e) in let q = p.others k (lesser k o) in (apart k ne ∙ q.0, else_ k ne ∙ q.1);
  own = λ w k l u. dite (ℕ_discrete k n)
      (λ e. rw e (own (p.stays.weight ∙ w)))
      (λ ne. else_ k ne ∙ p.own w k l (omega arith));
} where
  out : (k : ℕ) → (k < from) ⊎ (n + 1 ≤ k) → k ≡ n → ⊥
  out k (inl l) e = omega arith
  out k (inr l) e = omega arith

  lesser : (k : ℕ) → (k < from) ⊎ (n + 1 ≤ k) → (k < from) ⊎ (n ≤ k)
  lesser k (inl l) = inl l
  lesser k (inr l) = inr (omega arith)

-- from home to the end, and then from the beginning to home
pub turned_all : (t : Shape) (home : ℕ) (first mine last : List Bool) (a b c : Account) → home ≤ managers t → ((k : ℕ) → get_or first k false ≡ false)
    → Turned t home (managers t) first mine a b → Turned t 0 home mine last b c → Turned t 0 (managers t) [] last a c
turned_all t home first mine last a b c low none p q = record {
  stays = stays_trans a b c p.stays q.stays;
  known = q.known ∙ p.known;
  acked = q.acked ∙ p.acked;
  duties = q.duties ∙ p.duties;
  turns = λ k l u. dite (dec_lt k home)
      (λ lt. turn_between k (get_or last k false) b a c c (p.others k (inl lt)).1 refl (q.turns k (omega arith) lt))
      (λ ge. let o = q.others k (inr (omega arith)) in
      rw o.0 (turn_between k (get_or mine k false) a a b c refl (sym o.1) (p.turns k (omega arith) u)));
  unacked = λ k m l u e lm. dite (dec_lt k home)
      (λ lt. ap (λ (ps : List (List ℕ)). at_pair ps m k) (sym p.acked) ∙ q.unacked k m (omega arith) lt e lm)
      (λ ge. let o = q.others k (inr (omega arith)) in p.unacked k m (omega arith) u (sym o.0 ∙ e) lm);
  others = λ k o. let above : managers t ≤ k = over k o in
      let x = p.others k (inr above) in let y = q.others k (inr (omega arith)) in (y.0 ∙ x.0 ∙ none k, y.1 ∙ x.1);
  own = λ w k l u. dite (dec_lt k home)
      (λ lt. q.own (p.stays.weight ∙ w) k (omega arith) lt)
      (λ ge. (q.others k (inr (omega arith))).1 ∙ p.own w k (omega arith) u);
} where
  over : (k : ℕ) → (k < 0) ⊎ (managers t ≤ k) → managers t ≤ k
  over k (inl l) = absurd (omega arith)
  over k (inr l) = l
