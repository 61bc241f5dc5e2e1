-- How a round finishes.
use Rattle.std.proofs.Common.{◌≡◌, ℕ, ◌+◌, ◌-◌, ◌≤◌, List, get_or, sum, sym, refl, ap, ◌∙◌, subst, arith}
use Rattle.atomic_table.specs.Table.{Me}
use Rattle.atomic_table.specs.Seated.{TableId}
use Rattle.quiet_core.specs.Account.{Shape, root, Account}
use Rattle.quiescence.specs.declared.ended.Unfinished.{Unfinished}
use Rattle.quiescence.specs.Rule.{RoundId, Holding, View}
use Rattle.quiescence.specs.Hands.{IsHand}
use Rattle.quiescence.specs.Counts.{scheduled_in, reported_in, posted_in, acked_in, duties_in}
use Rattle.quiescence.specs.Ended.{Ends, IsClosed, IsUnfinished, closing, inner_words, posted_words, working_in}
use Rattle.quiescence.proofs.Left.{reported_few, acked_few, something, at_end, before_end, letters_are, pairs_are, posted_sum, posted_fits, inner_sum, inner_fits}

-- the frame and the words that are left, the hand that has joined all others, and its account a
module _ (r : RoundId) (t : Shape) (words : List ℕ) (table : TableId) (me : Me (Unit {0}) View) (reported acked : ℕ) (v : Holding) (a : Account)
    (seen : record { round = record { table = table; shape = me.0.shape }; account = me.0.account } ≡ v) (of : v.round ≡ r) (is : v.account ≡ a) (h : IsHand me.0.shape me reported acked)
    (same : t ≡ r.shape) (ends : Ends r.shape me.0.account words) (all : a.weight ≡ r.shape.hands) where
  mine : me.0.account ≡ a
  mine = ap (λ (g : Holding). g.account) seen ∙ is

  is_about : me.0.shape ≡ t
  is_about = ap (λ (g : Holding). g.round.shape) seen ∙ ap (λ (q : RoundId). q.shape) of ∙ sym same

  e : Ends t a words
  e = subst (λ (z : Shape × Account). Ends z.0 z.1 words) (λ i. (sym same i, mine i)) ends

  whole : a.weight ≡ t.hands
  whole = all ∙ sym (ap (λ (z : Shape). z.hands) same)

  reported_is : reported ≡ reported_in t a
  reported_is = h.reported_is ∙ (λ i. reported_in (is_about i) (mine i))

  acked_is : acked ≡ acked_in t a
  acked_is = h.acked_is ∙ (λ i. acked_in (is_about i) (mine i))

  pub reported_le : reported ≤ scheduled_in t
  reported_le = let i = reported_is in let l = reported_few t a words e whole in omega arith

  pub posted_small : sum (posted_words t words) ≤ 16384000000
  posted_small = let s = posted_sum t a words e whole in let f = posted_fits t a words e whole in omega arith

  pub acked_le : acked ≤ sum (posted_words t words)
  acked_le = let i = acked_is in let s = posted_sum t a words e whole in let l = acked_few t a words e whole in omega arith

  pub inner_small : sum (inner_words t words) ≤ 60
  inner_small = inner_fits t a words e whole

  pub working_le : working_in t words ≤ sum (inner_words t words)
  working_le = let s = inner_sum t a words e whole in omega arith

  pub closed : get_or words (root t) 0 ≡ 0 → IsClosed r.shape a (closing t words)
  closed z = let q = at_end t a words e whole z in subst (λ (s : Shape). IsClosed s a (closing t words)) same record {
    at_root = q.0;
    quiet = q.1;
    scheduled = refl;
    pairs = pairs_are t a words e whole;
    posted = letters_are t a words e whole;
    all_posted = posted_sum t a words e whole;
  }

  pub unfinished : (u : Unfinished) → 1 ≤ get_or words (root t) 0 → u.unreported ≡ scheduled_in t - reported
      → u.unacked ≡ sum (posted_words t words) - acked → u.unclimbed ≡ sum (inner_words t words) - working_in t words → IsUnfinished r.shape a u
  unfinished u o ex ey ez =
      let i = reported_is in let j = acked_is in let l = reported_le in let k = acked_le in let s = posted_sum t a words e whole in let w = inner_sum t a words e whole in
      let x : u.unreported + reported_in t a ≡ scheduled_in t = omega arith in
      let y : u.unacked + acked_in t a ≡ posted_in t a = omega arith in
      let z : u.unclimbed ≡ duties_in t a = omega arith in
      subst (λ (s : Shape). IsUnfinished s a u) same record {
        not_at_root = before_end t a words e whole o;
        unreported = x;
        unacked = y;
        unclimbed = z;
        something = something t a words e whole u.unreported u.unacked u.unclimbed o x y z;
      }
