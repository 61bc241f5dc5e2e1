-- What reports tell of an account.
use Rattle.std.proofs.Common.{◌≡◌, ◌≢◌, ℕ, ◌-◌, ◌<◌, ◌≤◌, ◌⊎◌, inr, ⊎_elim, List, [], ◌∷◌, ◌++◌, Bool, true, false, cond, nat_eq}
use Rattle.std.proofs.Common.{eq-eqb, ne_eqb, get_or, length, sym, ap, ◌∙◌, arith}
use mathlib.Core.Logic.{dite}
use native.Mathlib.Decide.{ℕ_discrete}
use Rattle.std.proofs.lemmas.List.Elements.{All-push}
use Rattle.std.proofs.lemmas.List.Sums.{sum_by_push}
use Rattle.actor_trait.specs.Meaning.{Meaning}
use Rattle.quiet_core.specs.Rows.{bit, at_pair, put}
use Rattle.quiet_core.specs.Account.{Shape, Account, Mark, free, fresh, reported, mark, has_met, opened, entered, done, scheduled}
use Rattle.quiet_core.specs.Step.{put_mark}
use Rattle.quiet_core.proofs.Sums.{below_gap, put_here, put_else}
use Rattle.quiet_core.proofs.Untouched.{mark_here}
use Rattle.quiescence.specs.Answers.{NoDuty}
use Rattle.sim_model.specs.Moment.{is_among}
use Rattle.sim_model.specs.declared.report.Report.{Report}
use Rattle.work_claims.specs.Acting.{AtRest, Grew, OneOpen, Others, Tells, frees, reports_of}
use Rattle.work_claims.specs.Letters.{sends_between, sends_to}
use Rattle.work_claims.specs.Placed.{IsMeant, IsPlaced, Placed, id_at, scheduled_at}
use Rattle.work_claims.proofs.Places.{place_among, place_apart, place_home, this_or}
use Rattle.work_claims.proofs.Publishes.{put_others}

bit_same : (x y : ℕ) → x ≡ y → bit (nat_eq x y) ≡ 1
bit_same x y e = ap bit (eq-eqb x y e)

bit_apart : (x y : ℕ) → x ≢ y → bit (nat_eq x y) ≡ 0
bit_apart x y ne = ap bit (ne_eqb x y ne)

-- a report more of the actor at (k, i), whose letters were posted, and which is done
module _ {A : Type 0} (m : Meaning A) (p : Placed A) (placed : IsPlaced p) (k i : ℕ) (lk : k < p.managers) (li : i < length (scheduled_at p k))
    (r : Report A) (id : r.id ≡ id_at p k i) where
  sent_here : (n : ℕ) → sends_between m p k n r ≡ sends_to m p n r.outcome
  sent_here n = ap (λ (b : Bool). cond b (sends_to m p n r.outcome) 0) (eq-eqb (p.home r.id) k (ap p.home id ∙ place_home p k i li))

  sent_apart : (l n : ℕ) → l ≢ k → sends_between m p l n r ≡ 0
  sent_apart l n ne =
      ap (λ (b : Bool). cond b (sends_to m p n r.outcome) 0)
      (ne_eqb (p.home r.id) l (λ e. ne (sym e ∙ ap p.home id ∙ place_home p k i li)))

  of_this : bit (nat_eq r.id.0 (id_at p k i).0) ≡ 1
  of_this = bit_same r.id.0 (id_at p k i).0 (ap (λ a. a.0) id)

  of_other : (l j : ℕ) → j < length (scheduled_at p l) → (l ≢ k) ⊎ (j ≢ i) → bit (nat_eq r.id.0 (id_at p l j).0) ≡ 0
  of_other l j lj apart = bit_apart r.id.0 (id_at p l j).0 (λ e. place_apart p placed l j k i lj li apart (ap (λ a. a.0) (sym id) ∙ e))

  pub tells_more : (rs : List (Report A)) (a d : Account) → Tells m p rs a → IsMeant m p r → mark a k i ≡ fresh → Others k i a d
      → mark d k i ≡ reported → Grew p.managers k (λ n. sends_to m p n r.outcome) a d → Tells m p (rs ++ r ∷ []) d
  tells_more rs a d t meant was others is grew = record {
    once = λ l j ll lj. ⊎_elim
        (λ e. let q = sum_by_push (λ s. bit (nat_eq s.id.0 (id_at p k i).0)) rs r in let o = t.once k i lk li in
        let w = ap done was in let n = ap done is in let one = of_this in rw e.0 (rw e.1 (omega arith)))
        (λ apart. let q = sum_by_push (λ s. bit (nat_eq s.id.0 (id_at p l j).0)) rs r in let o = t.once l j ll lj in
        let s = ap done (others l j apart) in let none = of_other l j lj apart in omega arith)
        (this_or l j k i);
    meant = All-push (IsMeant m p) rs r t.meant meant;
    scheduled = All-push (λ s. is_among p.world.scheduled s.id ≡ true) rs r t.scheduled (ap (is_among p.world.scheduled) id ∙ place_among p k i li);
    posted = λ l n ll ln. dite (ℕ_discrete l k)
        (λ e. let q = sum_by_push (sends_between m p k n) rs r in let o = t.posted k n lk ln in
        let g = grew.here n ln in let s = sent_here n in rw e (omega arith))
        (λ ne. let q = sum_by_push (sends_between m p l n) rs r in let o = t.posted l n ll ln in
        let g = grew.apart l n ne in let s = sent_apart l n ne in omega arith);
  }

-- a claim reports nothing
pub tells_claimed : {A : Type 0} (m : Meaning A) (p : Placed A) (rs : List (Report A)) (a : Account) (k i : ℕ) → Tells m p rs a → mark a k i ≡ free
    → Tells m p rs (put_mark a k i fresh)
tells_claimed m p rs a k i t was = record {
  once = λ l j ll lj. ⊎_elim
      (λ e. let o : reports_of rs (id_at p k i) ≡ done (mark a k i) = rw (← e.0) (rw (← e.1) (t.once l j ll lj)) in
      let w = ap done was in let n = ap done (mark_here a k i fresh) in rw e.0 (rw e.1 (omega arith)))
      (λ apart. let o = t.once l j ll lj in let s = ap done (put_others a k i fresh l j apart) in omega arith)
      (this_or l j k i);
  meant = t.meant;
  scheduled = t.scheduled;
  posted = t.posted;
}

-- an account that differs in whom it found exhausted alone
pub tells_same : {A : Type 0} (m : Meaning A) (p : Placed A) (rs : List (Report A)) (a b : Account) → Tells m p rs a → b.marks ≡ a.marks → b.posted ≡ a.posted
    → Tells m p rs b
tells_same m p rs a b t marks posted = record {
  once = λ l j ll lj. t.once l j ll lj ∙ ap (λ (ms : List (List Mark)). done (get_or (get_or ms l []) j free)) (sym marks);
  meant = t.meant;
  scheduled = t.scheduled;
  posted = λ l n ll ln. ap (λ (ps : List (List ℕ)). at_pair ps l n) posted ∙ t.posted l n ll ln;
}

pub one_open : (a : Account) (m i : ℕ) → AtRest a → OneOpen m i (put_mark a m i fresh)
one_open a m i r = record {
  here = mark_here a m i fresh;
  others = λ k j apart. ap opened (put_others a m i fresh k j apart) ∙ r.none_open k j;
  no_duty = r.no_duty;
}

at_rest : (a d : Account) (m i : ℕ) → OneOpen m i a → Others m i a d → mark d m i ≡ reported → NoDuty d → AtRest d
at_rest a d m i o others is none = record {
  none_open = λ k j. ⊎_elim
      (λ e. rw e.0 (rw e.1 (ap opened is)))
      (λ apart. ap opened (others k j apart) ∙ o.others k j apart)
      (this_or k j m i);
  no_duty = none;
}

entered_less : (k l : Mark) → k ≡ l → 1 - entered k ≤ 1 - entered l
entered_less k l e = let s = ap entered e in omega arith

-- one number less is free
pub fewer : (t : Shape) (a d : Account) (m i : ℕ) → i < scheduled t m → mark a m i ≡ free → Others m i a d → mark d m i ≡ reported
    → frees t d m < frees t a m
fewer t a d m i lt was others is =
    let gap = below_gap (λ j. 1 - entered (mark d m j)) (λ j. 1 - entered (mark a m j)) (scheduled t m) i 1 lt
    (λ j l. dite (ℕ_discrete j i)
    (λ e. let x = ap entered was in let y = ap entered is in rw e (omega arith))
    (λ ne. entered_less (mark d m j) (mark a m j) (others m j (inr ne))))
    (let x = ap entered was in let y = ap entered is in omega arith)
    in omega arith

-- what becomes of an account whose actor (m, i) is published, which gives b, and reported, which gives d
module _ (a b d : Account) (m i : ℕ) (o : OneOpen m i a) (others : Others m i a b) (marks : d.marks ≡ (put_mark b m i reported).marks) where
  pub all_others : Others m i a d
  all_others k j apart =
      ap (λ (ms : List (List Mark)). get_or (get_or ms k []) j free) marks ∙ put_others b m i reported k j apart ∙ others k j apart

  pub now_reported : mark d m i ≡ reported
  now_reported = ap (λ (ms : List (List Mark)). get_or (get_or ms m []) i free) marks ∙ mark_here b m i reported

  pub now_rests : NoDuty d → AtRest d
  now_rests none = at_rest a d m i o all_others now_reported none

-- letters by other numbers that are the same, and an account with the same posts
pub grew_still : (managers m : ℕ) (f g : ℕ → ℕ) (a b d : Account) → ((n : ℕ) → f n ≡ g n) → Grew managers m f a b → d.posted ≡ b.posted → Grew managers m g a d
grew_still managers m f g a b d same w e = record {
  here = λ n lt. let s = same n in let h = w.here n lt in ap (λ (p : List (List ℕ)). at_pair p m n) e ∙ omega arith;
  apart = λ k n ne. ap (λ (p : List (List ℕ)). at_pair p k n) e ∙ w.apart k n ne;
}

-- a manager that was found exhausted
pub met_here : (a a' : Account) (m : ℕ) → a' ≡ record a { exhausted = put false a.exhausted m true } → has_met a' m ≡ true
met_here a a' m e = ap (λ (b : Account). has_met b m) e ∙ put_here false a.exhausted m true

pub met_else : (a a' : Account) (m k : ℕ) → a' ≡ record a { exhausted = put false a.exhausted m true } → k ≢ m → has_met a' k ≡ has_met a k
met_else a a' m k e ne = ap (λ (b : Account). has_met b k) e ∙ put_else false a.exhausted m k true ne

pub others_after : (a b d : Account) (m i : ℕ) → b ≡ put_mark a m i fresh → Others m i b d → Others m i a d
others_after a b d m i e o k j apart = o k j apart ∙ ap (λ (x : Account). mark x k j) e ∙ put_others a m i fresh k j apart
