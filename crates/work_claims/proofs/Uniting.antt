-- What two hands that unite have done together.
use Rattle.std.proofs.Common.{◌≡◌, ℕ, ◌+◌, ◌<◌, ◌⊎◌, inl, inr, Bool, true, false, ◌||◌, nat_eq, map, get_or, replicate, List, ◌∷◌, ◌++◌, length, append-nil, refl, sym, ap, ◌∙◌, subst, arith}
use Rattle.std.specs.List.{All}
use Rattle.std.proofs.lemmas.Grind.{flat_map-append}
use Rattle.std.proofs.lemmas.List.Elements.{All-append, All-head, All-tail}
use Rattle.std.proofs.lemmas.List.Sums.{sum_by-append}
use Rattle.std.proofs.lemmas.List.{get_or-map, get_or-replicate, length-map, length-replicate}
use Rattle.sim_base.specs.declared.ids.ActorId.{ActorId}
use Rattle.actor_trait.specs.Meaning.{Meaning}
use Rattle.actor_trait.specs.declared.letter.Letter.{Letter}
use Rattle.inbox_order.specs.Inboxes.{inbox_of}
use Rattle.quiet_core.specs.Rows.{bit}
use Rattle.quiet_core.specs.Account.{Shape, managers, Mark, free, fresh, told, reported, twice, Account, mark, has_met, posts, acks, collects, has_duty, opened, done}
use Rattle.quiet_core.specs.Step.{meet, united}
use Rattle.quiet_core.proofs.Meeting.{mark_united}
use Rattle.quiet_core.proofs.Sums.{blend_at}
use Rattle.quiescence.specs.Answers.{NoDuty}
use Rattle.quiescence.specs.Learnt.{Disjoint}
use Rattle.quiescence.specs.Rule.{Holding, RoundId}
use Rattle.quiescence.proofs.Together.{acks_united, collects_united, posts_united}
use Rattle.sim_model.specs.Moment.{is_among}
use Rattle.sim_model.specs.declared.report.Report.{Report}
use Rattle.work_claims.specs.Acting.{AtRest, Ended, Tells}
use Rattle.work_claims.specs.Collecting.{inbox_in}
use Rattle.work_claims.specs.Letters.{sends_between}
use Rattle.work_claims.specs.Placed.{FitsRound, IsMeant, Placed, id_at}
use Rattle.work_claims.specs.Together.{AreGathered, Gathered, Helped, IsDone, IsOpenTo, IsTakenTo, Worked}
use Rattle.work_claims.specs.declared.acted.Acted.{Acted}
use Rattle.work_claims.specs.declared.acted.Collected.{Collected}

-- the inboxes in parts, one behind the other
pub inbox_append : (xs ys : List (List Letter)) (to : ActorId) → inbox_in (xs ++ ys) to ≡ inbox_in xs to ++ inbox_in ys to
inbox_append xs ys to = flat_map-append (λ part. inbox_of part to) xs ys

or_off : (x : Bool) → (x || false) ≡ x
or_off true = refl
or_off false = refl

pub or_no : (x y : Bool) → (x || y) ≡ false → (x ≡ false) × (y ≡ false)
or_no true y e = cc
or_no false y e = (refl, e)

meet_free : (k : Mark) → meet k free ≡ k
meet_free free = refl
meet_free fresh = refl
meet_free (told n) = refl
meet_free reported = refl
meet_free twice = refl

opened_meet : (k l : Mark) → opened k ≡ 0 → opened l ≡ 0 → opened (meet k l) ≡ 0
opened_meet free l e f = f
opened_meet fresh l e f = absurd (omega arith)
opened_meet (told n) l e f = absurd (omega arith)
opened_meet reported free e f = refl
opened_meet reported fresh e f = refl
opened_meet reported (told n) e f = refl
opened_meet reported reported e f = refl
opened_meet reported twice e f = refl
opened_meet twice free e f = refl
opened_meet twice fresh e f = refl
opened_meet twice (told n) e f = refl
opened_meet twice reported e f = refl
opened_meet twice twice e f = refl

module _ (t : Shape) (a c : Account) (apart : Disjoint t a c) where
  pub done_united : (k i : ℕ) → k < managers t → done (mark (united a c) k i) ≡ done (mark a k i) + done (mark c k i)
  done_united k i lk = told (apart.marks k i lk) where
    told : (mark a k i ≡ free) ⊎ (mark c k i ≡ free) → done (mark (united a c) k i) ≡ done (mark a k i) + done (mark c k i)
    told (inl e) =
        let all : mark (united a c) k i ≡ mark c k i = mark_united a c k i ∙ ap (λ (x : Mark). meet x (mark c k i)) e in
        let u = ap done all in let z = ap done e in omega arith
    told (inr e) =
        let all : mark (united a c) k i ≡ mark a k i = mark_united a c k i ∙ ap (λ (x : Mark). meet (mark a k i) x) e ∙ meet_free (mark a k i) in
        let u = ap done all in let z = ap done e in omega arith

met_united : (a c : Account) (m : ℕ) → has_met (united a c) m ≡ (has_met a m || has_met c m)
met_united a c m = blend_at ◌||◌ false (λ y. refl) or_off a.exhausted c.exhausted m

duty_united : (a c : Account) (n : ℕ) → has_duty (united a c) n ≡ (has_duty a n || has_duty c n)
duty_united a c n = blend_at ◌||◌ false (λ y. refl) or_off a.duties c.duties n

pub no_duty_united : (a c : Account) → NoDuty a → NoDuty c → NoDuty (united a c)
no_duty_united a c x y n = duty_united a c n ∙ ap (λ (b : Bool). b || has_duty c n) (x n) ∙ y n

rest_united : (a c : Account) → AtRest a → AtRest c → AtRest (united a c)
rest_united a c x y = record {
  none_open = λ m i. ap opened (mark_united a c m i) ∙ opened_meet (mark a m i) (mark c m i) (x.none_open m i) (y.none_open m i);
  no_duty = no_duty_united a c x.no_duty y.no_duty;
}

ended_united : (managers : ℕ) (a c : Account) → Ended managers a → Ended managers c → Ended managers (united a c)
ended_united managers a c x y = record {
  met = λ k l. met_united a c k ∙ ap (λ (b : Bool). b || has_met c k) (x.met k l);
  rest = rest_united a c x.rest y.rest;
}

module _ {A : Type 0} (m : Meaning A) (p : Placed A) (t : Shape) (fits : FitsRound p t) where
  tells_united : (xs ys : List (Report A)) (a c : Account) → Disjoint t a c → Tells m p xs a → Tells m p ys c → Tells m p (xs ++ ys) (united a c)
  tells_united xs ys a c apart x y = record {
    once = λ k i lk li.
        let f = fits.managers_are in
        let s = sum_by-append (λ r. bit (nat_eq r.id.0 (id_at p k i).0)) xs ys in
        let u = done_united t a c apart k i (omega arith) in
        let o = x.once k i lk li in let q = y.once k i lk li in omega arith;
    meant = All-append (IsMeant m p) xs ys x.meant y.meant;
    scheduled = All-append (λ r. is_among p.world.scheduled r.id ≡ true) xs ys x.scheduled y.scheduled;
    posted = λ k n lk ln.
        let s = sum_by-append (sends_between m p k n) xs ys in
        let u = posts_united a c k n in
        let o = x.posted k n lk ln in let q = y.posted k n lk ln in omega arith;
  }

  pub worked_united : (r : RoundId) (n l : ℕ) (x y : Acted A) (h : Holding) → Disjoint t x.hand.account y.hand.account
      → h ≡ record x.hand { account = united x.hand.account y.hand.account } → Worked m p r n x → Worked m p r l y
      → Worked m p r (n + l) (record { hand = h; reports = x.reports ++ y.reports; short = x.short || y.short })
  worked_united r n l x y h apart is w v =
      let a : h.account ≡ united x.hand.account y.hand.account = ap (λ (z : Holding). z.account) is in
      record {
        of = ap (λ (z : Holding). z.round) is ∙ w.of;
        weight = let e = ap (λ (z : Account). z.weight) a in let f = w.weight in let g = v.weight in omega arith;
        none_collected = λ k lk. let e = ap (λ (z : Account). collects z k) a in let u = collects_united x.hand.account y.hand.account k in
            let f = w.none_collected k lk in let g = v.none_collected k lk in omega arith;
        tells = rw a (tells_united x.reports y.reports x.hand.account y.hand.account apart w.tells v.tells);
        ended = λ e. let both = or_no x.short y.short e in rw a (ended_united p.managers x.hand.account y.hand.account (w.ended both.0) (v.ended both.1));
      }

  open_both : (n : ℕ) (a c d : Account) (xs ys : List (List Letter)) → collects d n ≡ collects a n + collects c n → IsOpenTo p a xs n → IsOpenTo p c ys n
      → IsOpenTo p d (xs ++ ys) n
  open_both n a c d xs ys s x y = record {
    collects = let e = x.collects in let f = y.collects in omega arith;
    none = λ to h. inbox_append xs ys to ∙ ap (λ (l : List Letter). l ++ inbox_in ys to) (x.none to h) ∙ y.none to h;
  }

  taken_first : (reports : List (Report A)) (n : ℕ) (a c d : Account) (xs ys : List (List Letter)) → collects d n ≡ collects a n + collects c n
      → ((k : ℕ) → acks d k n ≡ acks a k n + acks c k n) → IsTakenTo m p reports a xs n → IsOpenTo p c ys n → IsTakenTo m p reports d (xs ++ ys) n
  taken_first reports n a c d xs ys s w x y = record {
    collects = let e = x.collects in let f = y.collects in omega arith;
    acked = λ k lk. let e = x.acked k lk in let f = w k in omega arith;
    inboxes = λ to h. inbox_append xs ys to ∙ ap (λ (l : List Letter). inbox_in xs to ++ l) (y.none to h) ∙ append-nil (inbox_in xs to) ∙ x.inboxes to h;
  }

  taken_last : (reports : List (Report A)) (n : ℕ) (a c d : Account) (xs ys : List (List Letter)) → collects d n ≡ collects a n + collects c n
      → ((k : ℕ) → acks d k n ≡ acks a k n + acks c k n) → IsOpenTo p a xs n → IsTakenTo m p reports c ys n → IsTakenTo m p reports d (xs ++ ys) n
  taken_last reports n a c d xs ys s w x y = record {
    collects = let e = x.collects in let f = y.collects in omega arith;
    acked = λ k lk. let e = y.acked k lk in let f = w k in omega arith;
    inboxes = λ to h. inbox_append xs ys to ∙ ap (λ (l : List Letter). l ++ inbox_in ys to) (x.none to h) ∙ y.inboxes to h;
  }

  gathered_both : (reports : List (Report A)) (a c : Account) (xs ys : List (List Letter)) → Disjoint t a c → AreGathered m p reports a xs → AreGathered m p reports c ys
      → AreGathered m p reports (united a c) (xs ++ ys)
  gathered_both reports a c xs ys apart x y n ln = told (x n ln) (y n ln) where
    s : collects (united a c) n ≡ collects a n + collects c n
    s = collects_united a c n

    w : (k : ℕ) → acks (united a c) k n ≡ acks a k n + acks c k n
    w k = acks_united a c k n

    told : IsOpenTo p a xs n ⊎ IsTakenTo m p reports a xs n → IsOpenTo p c ys n ⊎ IsTakenTo m p reports c ys n
        → IsOpenTo p (united a c) (xs ++ ys) n ⊎ IsTakenTo m p reports (united a c) (xs ++ ys) n
    told (inl e) (inl f) = inl (open_both n a c (united a c) xs ys s e f)
    told (inl e) (inr f) = inr (taken_last reports n a c (united a c) xs ys s w e f)
    told (inr e) (inl f) = inr (taken_first reports n a c (united a c) xs ys s w e f)
    told (inr e) (inr f) = let g = fits.managers_are in let o = apart.collectors n (omega arith) in
        let u = e.collects in let v = f.collects in absurd (omega arith)

  done_both : (reports : List (Report A)) (a c : Account) → Disjoint t a c → IsDone m p reports a
      → ((k i : ℕ) → done (mark c k i) ≡ 0) → ((k n : ℕ) → k < p.managers → n < p.managers → posts c k n ≡ 0) → IsDone m p reports (united a c)
  done_both reports a c apart x none_done none_posted = record {
    all_done = λ k i lk li. let g = fits.managers_are in let u = done_united t a c apart k i (omega arith) in
        let e = x.all_done k i lk li in let f = none_done k i in omega arith;
    posted = λ k n lk ln. let u = posts_united a c k n in let e = x.posted k n lk ln in let f = none_posted k n lk ln in omega arith;
  }

  pub gathered_united : (r : RoundId) (n : ℕ) (reports : List (Report A)) (x y : Collected) (h : Holding) → Disjoint t x.hand.account y.hand.account
      → h ≡ record x.hand { account = united x.hand.account y.hand.account } → Gathered m p r n reports x → Helped m p r reports y
      → Gathered m p r (n + 1) reports (record { hand = h; inboxes = x.inboxes ++ y.inboxes; short = x.short || y.short })
  gathered_united r n reports x y h apart is w v =
      let a : h.account ≡ united x.hand.account y.hand.account = ap (λ (z : Holding). z.account) is in
      record {
        of = ap (λ (z : Holding). z.round) is ∙ w.of;
        weight = let e = ap (λ (z : Account). z.weight) a in let f = w.weight in let g = v.weight in omega arith;
        no_duty = rw a (no_duty_united x.hand.account y.hand.account w.no_duty v.no_duty);
        work = rw a (done_both reports x.hand.account y.hand.account apart w.work v.none_done v.none_posted);
        letters = λ e. let both = or_no x.short y.short e in
            rw a (gathered_both reports x.hand.account y.hand.account x.inboxes y.inboxes apart (w.letters both.0) (v.letters both.1));
      }

-- a fact of each element, at the first and at the rest
pub all_step : {X : Type 0} (P : X → Type 0) (xs : List X) (x : X) (ys : List X) → xs ≡ x ∷ ys → All P xs → P x × All P ys
all_step P xs x ys e all = let here = subst (λ l. All P l) e all in (All-head P x ys here, All-tail P x ys here)

-- the same seats
pub seats_alike : {X Y : Type 0} (f : X → Y) (xs : List X) (n : ℕ) (y : Y) → map f xs ≡ replicate n y → All (λ x. f x ≡ y) xs
seats_alike f xs n y e k d lt =
    let long = length-map xs f in let all = ap (λ l. length l) e in let many = length-replicate n y in
    sym (get_or-map f xs k d (f d) lt) ∙ ap (λ l. get_or l k (f d)) e ∙ get_or-replicate n k y (f d) (omega arith)

pub worked_is : {A : Type 0} (m : Meaning A) (p : Placed A) (r : RoundId) (n l : ℕ) (x y : Acted A) → n ≡ l → x ≡ y → Worked m p r n x → Worked m p r l y
worked_is m p r n l x y e f w = subst (λ k. Worked m p r k y) e (subst (λ a. Worked m p r n a) f w)

pub gathered_is : {A : Type 0} (m : Meaning A) (p : Placed A) (r : RoundId) (n l : ℕ) (reports : List (Report A)) (x y : Collected) → n ≡ l → x ≡ y
    → Gathered m p r n reports x → Gathered m p r l reports y
gathered_is m p r n l reports x y e f w = subst (λ k. Gathered m p r k reports y) e (subst (λ a. Gathered m p r n reports a) f w)

pub seats_count : {X Y : Type 0} (f : X → Y) (xs : List X) (n : ℕ) (y : Y) → map f xs ≡ replicate n y → length xs ≡ n
seats_count f xs n y e = let long = length-map xs f in let all = ap (λ l. length l) e in let many = length-replicate n y in omega arith
