-- What collect phases give, hand by hand and at last.
use Rattle.std.proofs.Common.{◌≡◌, ℕ, ◌<◌, ◌≤◌, ◌⊎◌, inl, inr, Bool, false, List, [], ◌++◌, max, get_or, append-nil, refl, sym, ap, ◌∙◌, subst, arith}
use Rattle.actor_trait.specs.Meaning.{Meaning}
use Rattle.actor_trait.specs.declared.letter.Letter.{Letter}
use Rattle.quiet_core.specs.Rows.{at_pair}
use Rattle.quiet_core.specs.Account.{Shape, managers, Mark, free, Account, mark, posts, knows, collects, done}
use Rattle.quiet_core.proofs.Blank.{collects_none, mark_none, posts_none}
use Rattle.quiescence.specs.Joint.{helper, keeper}
use Rattle.quiescence.specs.Rule.{Holding, RoundId}
use Rattle.sim_model.specs.declared.report.Report.{Report}
use Rattle.work_claims.specs.Collecting.{AreInboxesTo, CameTo, CollectedAll, Collects, Stays, inbox_in}
use Rattle.work_claims.specs.Letters.{letters_between}
use Rattle.work_claims.specs.Placed.{FitsRound, Placed}
use Rattle.work_claims.specs.Together.{AllGathered, AreGathered, Gathered, Helped, IsDone, IsOpenTo, IsReady, IsTakenTo, Phased}
use Rattle.work_claims.specs.declared.acted.Collected.{Collected}
use Rattle.work_claims.proofs.Uniting.{inbox_append}

posts_stay : (k n : ℕ) (a b : Account) → Stays a b → posts b k n ≡ posts a k n
posts_stay k n a b s = ap (λ (l : List (List ℕ)). at_pair l k n) s.posted

done_stays : (k i : ℕ) (a b : Account) → Stays a b → done (mark b k i) ≡ done (mark a k i)
done_stays k i a b s = ap (λ (l : List (List Mark)). done (get_or (get_or l k []) i free)) s.marks

module _ {A : Type 0} (m : Meaning A) (p : Placed A) (t : Shape) (fits : FitsRound p t) (reports : List (Report A)) where
  -- of a hand that collected nothing before, and knew of all letters or had posted them
  module _ (a b : Account) (parts : List (List Letter)) (did : Collects t a b) (all : CollectedAll t a b) (inboxes : AreInboxesTo m p reports a b parts) where
    taken : (n : ℕ) → n < p.managers → ((k : ℕ) → k < p.managers → letters_between m p k n reports ≤ max (knows a k n) (posts a k n)) → CameTo n a b
        → IsTakenTo m p reports b parts n
    taken n ln known came = record {
      collects = came.1;
      acked = λ k lk. let f = fits.managers_are in let e = all.came k n (omega arith) (omega arith) came in let x = e.0 in let y = e.1 in
          let more = did.knows_more k n (omega arith) (omega arith) in let o = known k lk in let s = posts_stay k n a b did.stays in omega arith;
      inboxes = λ to e. inboxes.came to (subst (λ j. CameTo j a b) (sym e) came);
    }

    opened : (n : ℕ) → n < p.managers → collects a n ≡ 0 → collects b n ≡ collects a n → IsOpenTo p b parts n
    opened n ln none same = record {
      collects = same ∙ none;
      none = λ to e. inboxes.left to (subst (λ j. collects b j ≡ collects a j) (sym e) same);
    }

    gathered : ((n : ℕ) → n < p.managers → collects a n ≡ 0)
        → ((k n : ℕ) → k < p.managers → n < p.managers → letters_between m p k n reports ≤ max (knows a k n) (posts a k n)) → AreGathered m p reports b parts
    gathered none known n ln = let f = fits.managers_are in told (all.tried n (omega arith)) where
      told : CameTo n a b ⊎ (collects b n ≡ collects a n) → IsOpenTo p b parts n ⊎ IsTakenTo m p reports b parts n
      told (inl came) = inr (taken n ln (λ k lk. known k n lk ln) came)
      told (inr same) = inl (opened n ln (none n ln) same)

    -- of the whole
    last : (before : List (List Letter)) → a.weight ≡ t.hands → ((k n : ℕ) → k < p.managers → n < p.managers → posts a k n ≡ letters_between m p k n reports)
        → AreGathered m p reports a before → (n : ℕ) → n < p.managers → IsTakenTo m p reports b (before ++ parts) n
    last before whole posted so_far n ln = told (so_far n ln) where
      f : managers t ≡ p.managers
      f = fits.managers_are

      own : collects b n ≡ 1
      own = let e = f in all.own whole n (omega arith)

      told : IsOpenTo p a before n ⊎ IsTakenTo m p reports a before n → IsTakenTo m p reports b (before ++ parts) n
      told (inl before_it) =
          let now = taken n ln (λ k lk. let e = posted k n lk ln in omega arith) (before_it.collects, own) in
          record {
            collects = own;
            acked = now.acked;
            inboxes = λ to e. inbox_append before parts to ∙ ap (λ (l : List Letter). l ++ inbox_in parts to) (before_it.none to e) ∙ now.inboxes to e;
          }
      told (inr taken) =
          let same : collects b n ≡ collects a n = own ∙ sym taken.collects in
          record {
            collects = own;
            acked = λ k lk. let g = f in let e = all.left k n (omega arith) (omega arith) same in let o = taken.acked k lk in omega arith;
            inboxes = λ to e. inbox_append before parts to
                ∙ ap (λ (l : List Letter). inbox_in before to ++ l) (inboxes.left to (subst (λ j. collects b j ≡ collects a j) (sym e) same))
                ∙ append-nil (inbox_in before to) ∙ taken.inboxes to e;
          }

  pub work_stays : (a b : Account) → Stays a b → IsDone m p reports a → IsDone m p reports b
  work_stays a b s w = record {
    all_done = λ k i lk li. done_stays k i a b s ∙ w.all_done k i lk li;
    posted = λ k n lk ln. posts_stay k n a b s ∙ w.posted k n lk ln;
  }

-- a round with what its hands know after they were dealt anew
module _ {A : Type 0} (m : Meaning A) (p : Placed A) (r : RoundId) (fits : FitsRound p r.shape) (reports : List (Report A)) (a : Account)
    (work : IsDone m p reports a) (known : List (List ℕ))
    (knows_all : (k n : ℕ) → k < managers r.shape → n < managers r.shape → posts a k n ≤ at_pair known k n) where
  knows_letters : (k n : ℕ) → k < p.managers → n < p.managers → letters_between m p k n reports ≤ at_pair known k n
  knows_letters k n lk ln = let f = fits.managers_are in let e = knows_all k n (omega arith) (omega arith) in let w = work.posted k n lk ln in omega arith

  -- the one that keeps what all have done
  pub kept : (collecting : Bool) → ((n : ℕ) → n < p.managers → collects a n ≡ 0) → (c : Collected)
      → Phased m p r reports (keeper r a known collecting) c → Gathered m p r 1 reports c
  kept collecting none c did =
      let h = (keeper r a known collecting).account in
      record {
        of = did.of;
        weight = did.collects.stays.weight;
        no_duty = did.no_duty;
        work = work_stays m p r.shape fits reports h c.hand.account did.collects.stays (record { all_done = work.all_done; posted = work.posted });
        letters = λ e. gathered m p r.shape fits reports h c.hand.account c.inboxes did.collects (did.collected e) (did.inboxes e) none
            (λ k n lk ln. let o = knows_letters k n lk ln in omega arith);
      }

  -- the others
  pub helped : (c : Collected) → Phased m p r reports (helper r known) c → Helped m p r reports c
  helped c did =
      let h = (helper r known).account in
      record {
        of = did.of;
        weight = did.collects.stays.weight;
        no_duty = did.no_duty;
        none_done = λ k i. done_stays k i h c.hand.account did.collects.stays ∙ ap done (mark_none r.shape k i);
        none_posted = λ k n lk ln. posts_stay k n h c.hand.account did.collects.stays ∙ posts_none r.shape k n;
        letters = λ e. gathered m p r.shape fits reports h c.hand.account c.inboxes did.collects (did.collected e) (did.inboxes e)
            (λ n ln. collects_none r.shape n) (λ k n lk ln. let o = knows_letters k n lk ln in omega arith);
      }

-- one hand of the whole weight that has collected nothing
pub not_dealt : {A : Type 0} (m : Meaning A) (p : Placed A) (r : RoundId) (reports : List (Report A)) (h : Holding) → IsReady m p r reports h
    → Gathered m p r r.shape.hands reports (record { hand = h; inboxes = []; short = false })
not_dealt m p r reports h ready = record {
  of = ready.of;
  weight = ready.weight;
  no_duty = ready.no_duty;
  work = ready.work;
  letters = λ e n ln. inl (record { collects = ready.none_collected n ln; none = λ to at. refl });
}

-- and the last phase
pub gathered_all : {A : Type 0} (m : Meaning A) (p : Placed A) (r : RoundId) (fits : FitsRound p r.shape) (reports : List (Report A)) (before last : Collected)
    (parts : List (List Letter)) (short : Bool) → Gathered m p r r.shape.hands reports before → before.short ≡ false → Phased m p r reports before.hand last → last.short ≡ false
    → parts ≡ before.inboxes ++ last.inboxes → AllGathered m p r reports (record { hand = last.hand; inboxes = parts; short = short })
gathered_all m p r fits reports before last_one parts short so_far e did f is = record {
  of = did.of;
  weight = did.collects.stays.weight ∙ so_far.weight;
  no_duty = did.no_duty;
  work = work_stays m p r.shape fits reports before.hand.account last_one.hand.account did.collects.stays so_far.work;
  taken = λ n ln. rw is (last m p r.shape fits reports before.hand.account last_one.hand.account last_one.inboxes did.collects (did.collected f) (did.inboxes f)
      before.inboxes so_far.weight so_far.work.posted (so_far.letters e) n ln);
}
