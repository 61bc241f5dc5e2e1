-- Letters that are taken in.
use Rattle.std.proofs.Common.{◌≡◌, ◌≢◌, ℕ, ◌+◌, ◌≤◌, ◌⊎◌, inl, inr, ⊎_elim, Bool, true, false, List, get_or, refl, sym, ap, ◌∙◌, arith}
use mathlib.Core.Logic.{dite}
use native.Mathlib.Decide.{ℕ_discrete}
use Rattle.quiet_core.specs.Rows.{at_pair, put_pair}
use Rattle.quiet_core.specs.Account.{Shape, Account, managers, acks, knows, posts}
use Rattle.quiet_core.proofs.Sums.{pair_here, pair_beside, pair_apart}
use Rattle.quiescence.specs.Answers.{NoDuty, OnlyDuty, holding, acked_more}
use Rattle.quiescence.specs.declared.answers.After.{After}
use Rattle.quiescence.proofs.Climbs.{only_holding}
use Rattle.work_claims.specs.Acting.{Still}
use Rattle.work_claims.specs.Collecting.{SameFrom, Stays, Taking, TakingAll, Took, TookFrom}
use Rattle.work_claims.proofs.Climbing.{marks_after, still_after}
use Rattle.work_claims.proofs.Turning.{stays_none, stays_trans}

pub pair_else : (l : List (List ℕ)) (m n j k v : ℕ) → (j ≢ m) ⊎ (k ≢ n) → at_pair (put_pair l m n v) j k ≡ at_pair l j k
pair_else l m n j k v apart = dite (ℕ_discrete j m)
    (λ e. rw e (pair_beside l m n k v (⊎_elim (λ ne. absurd (ne e)) (λ ne. ne) apart)))
    (λ ne. pair_apart l m n j k v ne)

-- the account b after an ack of k letters, and d after the climbs
module _ (a b d : Account) (m n k : ℕ) (r : After) (acked : b ≡ holding r (acked_more m n k a))
    (climbed : d ≡ record b { duties = d.duties; at_root = d.at_root }) where
  still : Still (acked_more m n k a) d
  still = still_after r (acked_more m n k a) b d acked climbed

  pub ack_stays : Stays a d
  ack_stays = record {
    weight = still.keeps.weight;
    collecting = still.keeps.collecting;
    marks = marks_after r (acked_more m n k a) b d acked climbed;
    exhausted = still.exhausted;
    posted = still.posted;
  }

  pub ack_known : d.known ≡ a.known
  ack_known = still.known

  pub ack_collected : d.collected ≡ a.collected
  ack_collected = still.keeps.collected

  pub ack_here : acks a m n ≡ 0 → acks d m n ≡ k
  ack_here z = ap (λ (l : List (List ℕ)). at_pair l m n) still.keeps.acked ∙ pair_here a.acked m n (acks a m n + k) ∙ omega arith

  pub ack_apart : (i j : ℕ) → (i ≢ m) ⊎ (j ≢ n) → acks d i j ≡ acks a i j
  ack_apart i j apart = ap (λ (l : List (List ℕ)). at_pair l i j) still.keeps.acked ∙ pair_else a.acked m n i j (acks a m n + k) apart

pub ack_only : (a b : Account) (m n k : ℕ) (r : After) → b ≡ holding r (acked_more m n k a) → NoDuty a → OnlyDuty r b
ack_only a b m n k r e none = rw e (only_holding r (acked_more m n k a) none)

same_from : (m n : ℕ) (a : Account) → SameFrom m n a a
same_from m n a = record { acks = refl; knows = refl }

-- nothing to look at
pub taking_none : (a : Account) (m n : ℕ) → acks a m n ≡ 0 → posts a m n ≡ 0 → knows a m n ≡ 0 → Taking m n a a
taking_none a m n acked posted known = record {
  stays = stays_none a;
  collected = refl;
  took = record { all = omega arith; own = omega arith; more = omega arith };
  apart = λ j k o. same_from j k a;
}

-- a look, and then an ack of what was found
pub taking : (a b d : Account) (m n x : ℕ) → b ≡ record a { known = put_pair a.known m n x } → knows a m n ≤ x → posts a m n ≤ x
    → Stays b d → d.known ≡ b.known → d.collected ≡ b.collected → acks d m n ≡ x
    → ((j k : ℕ) → (j ≢ m) ⊎ (k ≢ n) → acks d j k ≡ acks b j k) → Taking m n a d
taking a b d m n x e more own stays known_b collected here apart =
    let known : d.known ≡ put_pair a.known m n x = known_b ∙ ap (λ (y : Account). y.known) e in
    let posted : d.posted ≡ a.posted = stays.posted ∙ ap (λ (y : Account). y.posted) e in
    let knows_here : knows d m n ≡ x = ap (λ (l : List (List ℕ)). at_pair l m n) known ∙ pair_here a.known m n x in
    let posts_here : posts d m n ≡ posts a m n = ap (λ (l : List (List ℕ)). at_pair l m n) posted in
    record {
      stays = record {
        weight = stays.weight ∙ ap (λ (y : Account). y.weight) e;
        collecting = stays.collecting ∙ ap (λ (y : Account). y.collecting) e;
        marks = stays.marks ∙ ap (λ (y : Account). y.marks) e;
        exhausted = stays.exhausted ∙ ap (λ (y : Account). y.exhausted) e;
        posted = posted;
      };
      collected = collected ∙ ap (λ (y : Account). y.collected) e;
      took = record { all = here ∙ sym knows_here; own = omega arith; more = omega arith };
      apart = λ j k o. record {
        acks = apart j k o ∙ ap (λ (y : Account). acks y j k) e;
        knows = ap (λ (l : List (List ℕ)). at_pair l j k) known ∙ pair_else a.known m n j k x o;
      };
    }

same_trans : (m n : ℕ) (a b c : Account) → SameFrom m n a b → SameFrom m n b c → SameFrom m n a c
same_trans m n a b c p q = record { acks = q.acks ∙ p.acks; knows = q.knows ∙ p.knows }

posts_stay : (m n : ℕ) (a b : Account) → Stays a b → posts b m n ≡ posts a m n
posts_stay m n a b s = ap (λ (l : List (List ℕ)). at_pair l m n) s.posted

took_same : (m n : ℕ) (a b c : Account) → TookFrom m n a b → SameFrom m n b c → Stays b c → TookFrom m n a c
took_same m n a b c p q s =
    let all = p.all in let own = p.own in let more = p.more in let x = q.acks in let y = q.knows in let z = posts_stay m n b c s in
    record { all = omega arith; own = omega arith; more = omega arith }

same_took : (m n : ℕ) (a b c : Account) → SameFrom m n a b → TookFrom m n b c → TookFrom m n a c
same_took m n a b c p q = let more = q.more in let y = p.knows in record { all = q.all; own = q.own; more = omega arith }

pub take_none : (n : ℕ) (a : Account) → TakingAll 0 n a a
take_none n a = record {
  stays = stays_none a;
  collected = refl;
  took = λ j l. absurd (omega arith);
  later = λ j l. same_from j n a;
  apart = λ j k ne. same_from j k a;
}

pub take_next : (m n : ℕ) (a b d : Account) → TakingAll m n a b → Taking m n b d → TakingAll (m + 1) n a d
take_next m n a b d p q = record {
  stays = stays_trans a b d p.stays q.stays;
  collected = q.collected ∙ p.collected;
  took = λ j l. dite (ℕ_discrete j m)
      (λ e. rw e (same_took m n a b d (p.later m (omega arith)) q.took))
      (λ ne. took_same j n a b d (p.took j (omega arith)) (q.apart j n (inl ne)) q.stays);
  later = λ j l. same_trans j n a b d (p.later j (omega arith)) (q.apart j n (inl (λ e. omega arith)));
  apart = λ j k ne. same_trans j k a b d (p.apart j k ne) (q.apart j k (inr ne));
}

pub mine_none : (t : Shape) (mine : List Bool) (a : Account) → Took t 0 mine a a
mine_none t mine a = record {
  stays = stays_none a;
  collected = refl;
  took = λ k j l e lj. absurd (omega arith);
  others = λ k j e. same_from j k a;
  later = λ k j l. same_from j k a;
}

-- one manager more, whose letters are taken in if it is the hand's
pub mine_next : (t : Shape) (n : ℕ) (mine : List Bool) (a b d : Account) (own : Bool) → own ≡ get_or mine n false → Took t n mine a b
    → (own ≡ true → TakingAll (managers t) n b d) → (own ≡ false → d ≡ b) → Took t (n + 1) mine a d
mine_next t n mine a b d own is p took left = told own refl where
  told : (o : Bool) → own ≡ o → Took t (n + 1) mine a d
  told false e = rw (left e) (record {
    stays = p.stays;
    collected = p.collected;
    took = λ k j l f lj. dite (ℕ_discrete k n)
        (λ same. absurd (clash (sym e ∙ is ∙ ap (λ x. get_or mine x false) (sym same) ∙ f)))
        (λ ne. p.took k j (omega arith) f lj);
    others = p.others;
    later = λ k j l. p.later k j (omega arith);
  }) where
    clash : false ≡ true → ⊥
    clash z = cc
  told true e = let q = took e in record {
    stays = stays_trans a b d p.stays q.stays;
    collected = q.collected ∙ p.collected;
    took = λ k j l f lj. dite (ℕ_discrete k n)
        (λ same. rw same (same_took j n a b d (p.later n j (omega arith)) (q.took j lj)))
        (λ ne. took_same j k a b d (p.took k j (omega arith) f lj) (q.apart j k ne) q.stays);
    others = λ k j f. same_trans j k a b d (p.others k j f) (q.apart j k (λ same. clash (sym e ∙ is ∙ ap (λ x. get_or mine x false) (sym same) ∙ f)));
    later = λ k j l. same_trans j k a b d (p.later k j (omega arith)) (q.apart j k (λ same. omega arith));
  } where
    clash : true ≡ false → ⊥
    clash z = cc
