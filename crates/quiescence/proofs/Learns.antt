-- What a hand learns from the number that a deed found, and from the state in which it stands.
use Rattle.std.proofs.Common.{◌≡◌, ℕ, ◌+◌, ◌<◌, ◌≤◌, ◌≢◌, ◌⊎◌, ⊎_elim, Bool, true, false, cond, ◌||◌, sym, refl, ap, ◌∙◌, arith, lt-ltb, eq-eqb, true≢false, ne_eqb}
use mathlib.Core.Logic.{dite}
use native.Mathlib.Decide.{dec_lt}
use Rattle.quiet_core.specs.declared.deed.Deed.TheVariants as deed
use Rattle.quiet_core.specs.Rows.{put, bit}
use Rattle.quiet_core.specs.Balance.{Sized}
use Rattle.quiet_core.specs.Account.{Shape, managers, scheduled, root, parent, Mark, free, fresh, Account, mark, knows, posts, acks, collects, has_duty, entered, opened, owing}
use Rattle.quiet_core.specs.Step.{word, issued_at, put_mark, reached, May, meet, united}
use Rattle.quiet_core.proofs.Sums.{le_sum, le_below, pair_here, blend_at, put_here}
use Rattle.quiet_core.proofs.Acks.{one_left, open_in}
use Rattle.quiet_core.proofs.CollectKeeps.{collect_new, look_more}
use Rattle.quiet_core.proofs.AckKeeps.{enough}
use Rattle.quiet_core.proofs.ClimbKeeps.{some_kids}
use Rattle.quiet_core.proofs.Clearing.{meet_free, outside}
use Rattle.quiet_core.proofs.Meeting.{mark_united, meet_apart, marks_apart, collectors_apart}
use Rattle.quiet_core.proofs.Quieted.{root_quiet}
use Rattle.quiet_core.proofs.Whole.{entered_at_most, whole_met, whole_knows, whole_collects, sum_is}
use Rattle.quiet_core.proofs.Blank.{posts_none, acks_none}
use Rattle.quiet_core.proofs.Untouched.{ge_ltb}
use Rattle.quiet_core.proofs.Reached.{reached_not, reached_duty, reached_root}
use Rattle.quiescence.specs.declared.answers.After.{After}
use Rattle.quiescence.specs.declared.answers.After.TheVariants.{Left, Duty, Root}
use Rattle.quiescence.specs.Answers.{IsAfter, IsHigher, Holds, holding}
use Rattle.quiescence.specs.Rule.{Stands, Did}
use Rattle.quiescence.specs.Learnt.{Idle, Whole, Learnt, Disjoint}
use Rattle.quiescence.proofs.Reports.{was_free}

module _ (t : Shape) (a : Account) (s : Stands t a) where
  idle : a.at_root ≡ true → Idle t a
  idle e = let q = root_quiet t s.state s.hand a s.kept s.sits e in record {
    none_open = λ m i. q.none_open m i s.hand a s.sits;
    none_owed = λ m i. q.none_owed m i s.hand a s.sits;
    no_duty = λ c. q.no_duty c s.hand a s.sits;
  }

  whole : a.weight ≡ t.hands → Whole t a
  whole w = record {
    knows_posted = whole_knows t s.state s.hand a s.kept s.sits w;
    all_entered = whole_met t s.state s.hand a s.kept s.sits w;
    all_acked = λ e m n lm ln. (let q = root_quiet t s.state s.hand a s.kept s.sits e in
        sym (sum_is t s.state s.hand a s.kept s.sits w (λ (c : Account). acks c m n) (acks_none t m n)) ∙ q.all_acked m n ∙ sum_is t s.state s.hand a s.kept s.sits w (λ (c : Account). posts c m n) (posts_none t m n));
  }

  -- of a manager at which nobody is scheduled there are no letters
  silent : (m n : ℕ) → m < managers t → n < managers t → scheduled t m ≡ 0 → (posts a m n ≡ 0) × (knows a m n ≡ 0)
  silent m n lm ln z =
      let u = (s.kept.units m lm).letters in
      let l = le_below (λ k. word s.state (issued_at t m k)) (managers t) n ln in
      let w = s.kept.letters m n lm ln in
      let e = w.all_posted in
      let p = le_sum (λ (y : Account). posts y m n) s.state.accounts s.hand a s.sits in
      let k = w.known s.hand a s.sits in (omega arith, omega arith)

  pub learnt : Learnt t a
  learnt = record { once = entered_at_most t s.state s.hand a s.kept s.sits; silent = silent; idle = idle; whole = whole }

  -- a duty is held below the root
  pub duty_below : (c : ℕ) → has_duty a c ≡ true → c < root t
  duty_below c e = dite (dec_lt c (root t)) (λ l. l)
      (λ n. let z = s.kept.climbs.none_above c (omega arith) in let l = le_sum (λ (y : Account). bit (has_duty y c)) s.state.accounts s.hand a s.sits in let o : bit (has_duty a c) ≡ 1 = ap bit e in absurd (omega arith))

meet_opened : (k l : Mark) → (k ≡ free) ⊎ (l ≡ free) → opened (meet k l) ≡ 0 → (opened k ≡ 0) × (opened l ≡ 0)
meet_opened k l h o = ⊎_elim (λ e. let p : opened (meet k l) ≡ opened l = ap (λ (x : Mark). opened (meet x l)) e in (ap opened e, omega arith))
    (λ e. let p : opened (meet k l) ≡ opened k = ap (λ (x : Mark). opened (meet k x)) e ∙ ap opened (meet_free k) in (omega arith, ap opened e)) h

meet_owing : (k l : Mark) → (k ≡ free) ⊎ (l ≡ free) → owing (meet k l) ≡ 0 → (owing k ≡ 0) × (owing l ≡ 0)
meet_owing k l h o = ⊎_elim (λ e. let p : owing (meet k l) ≡ owing l = ap (λ (x : Mark). owing (meet x l)) e in (ap owing e, omega arith))
    (λ e. let p : owing (meet k l) ≡ owing k = ap (λ (x : Mark). owing (meet k x)) e ∙ ap owing (meet_free k) in (omega arith, ap owing e)) h

or_neither : (x y : Bool) → x || y ≡ false → (x ≡ false) × (y ≡ false)
or_neither true y e = absurd (true≢false e)
or_neither false y e = (refl, e)

or_none : (x : Bool) → x || false ≡ x
or_none true = refl
or_none false = refl

or_either : (x y : Bool) → (x ≡ true) ⊎ (y ≡ true) → x || y ≡ true
or_either true y h = refl
or_either false y h = ⊎_elim (λ e. absurd (true≢false (sym e))) (λ e. e) h

-- what the joined account tells of the two
module _ (t : Shape) (a c : Account) (s : Stands t (united a c)) where
  both_marks : (m i : ℕ) → m < managers t → (mark a m i ≡ free) ⊎ (mark c m i ≡ free)
  both_marks = marks_apart t s.state s.hand a c s.kept s.sits

  either_free : (m i : ℕ) → (mark a m i ≡ free) ⊎ (mark c m i ≡ free)
  either_free m i = dite (dec_lt m (managers t)) (both_marks m i)
      (λ far. meet_apart (mark a m i) (mark c m i)
      (let e = ap entered (sym (mark_united a c m i) ∙ outside t (united a c) m i (s.kept.clear s.hand (united a c) s.sits) far) in omega arith))

  both_idle : (a.at_root ≡ true) ⊎ (c.at_root ≡ true) → Idle t a × Idle t c
  both_idle h =
      let i = idle t (united a c) s (or_either a.at_root c.at_root h) in
      let o : (m i : ℕ) → (opened (mark a m i) ≡ 0) × (opened (mark c m i) ≡ 0) = λ m n. meet_opened (mark a m n) (mark c m n) (either_free m n) (ap opened (sym (mark_united a c m n)) ∙ i.none_open m n) in
      let w : (m i : ℕ) → (owing (mark a m i) ≡ 0) × (owing (mark c m i) ≡ 0) = λ m n. meet_owing (mark a m n) (mark c m n) (either_free m n) (ap owing (sym (mark_united a c m n)) ∙ i.none_owed m n) in
      let d : (k : ℕ) → (has_duty a k ≡ false) × (has_duty c k ≡ false) = λ k. or_neither (has_duty a k) (has_duty c k) (sym (blend_at ◌||◌ false (λ y. refl) or_none a.duties c.duties k) ∙ i.no_duty k) in (
        record { none_open = λ m n. (o m n).0; none_owed = λ m n. (w m n).0; no_duty = λ k. (d k).0 },
        record { none_open = λ m n. (o m n).1; none_owed = λ m n. (w m n).1; no_duty = λ k. (d k).1 },
      )

  pub apart : Disjoint t a c
  apart = record { marks = both_marks; collectors = collectors_apart t s.state s.hand a c s.kept s.sits; idle = both_idle }

module _ (t : Shape) (a a' : Account) (x : ℕ) where
  pub claimed : (m : ℕ) → May t (deed.Claim m) a → Did t (deed.Claim m) a x a' → x < scheduled t m → (x < scheduled t m) × (mark a m x ≡ free) × (a' ≡ put_mark a m x fresh)
  claimed m may d lt = (
    lt,
    was_free t a x a' m may d lt,
    d.account ∙ ap (λ (b : Bool). cond b (put_mark a m x fresh) (record a { exhausted = put false a.exhausted m true })) (lt-ltb x (scheduled t m) lt),
  )

  pub exhausted : (m : ℕ) → Did t (deed.Claim m) a x a' → scheduled t m ≤ x → (scheduled t m ≤ x) × (a' ≡ record a { exhausted = put false a.exhausted m true })
  exhausted m d le = (le, d.account ∙ ap (λ (b : Bool). cond b (put_mark a m x fresh) (record a { exhausted = put false a.exhausted m true })) (ge_ltb x (scheduled t m) le))

  pub posted : (m i to n : ℕ) → May t (deed.Post m i to n) a → Did t (deed.Post m i to n) a x a' → posts a m to ≤ x
  posted m i to n may d = let s = d.before in let f = d.found in let r = (s.kept.letters m to may.0 may.1).all_posted in let l = le_sum (λ (c : Account). posts c m to) s.state.accounts s.hand a s.sits in omega arith

  pub knows_own : (m i to n : ℕ) → May t (deed.Post m i to n) a → Did t (deed.Post m i to n) a x a' → posts a' m to ≤ knows a' m to
  knows_own m i to n may d = let l = posted m i to n may d in let p : posts a' m to ≡ posts a m to + n = ap (λ (b : Account). posts b m to) d.account ∙ pair_here a.posted m to (posts a m to + n) in
      let k : knows a' m to ≡ x + n = ap (λ (b : Account). knows b m to) d.account ∙ pair_here a.known m to (x + n) in omega arith

  pub done_found : (m i : ℕ) → May t (deed.Done m i) a → Did t (deed.Done m i) a x a' → 1 ≤ x
  done_found m i may d = let s = d.before in let f = d.found in let l = one_left t s.state s.kept s.hand a s.sits m i may.0 may.2 in omega arith

  pub done_within : (m i : ℕ) → May t (deed.Done m i) a → Did t (deed.Done m i) a x a' → i < scheduled t m
  done_within m i may d = let s = d.before in open_in t s.state s.kept s.hand a s.sits m i may.0 may.2

  pub collected : (n : ℕ) → May t (deed.Collect n) a → Did t (deed.Collect n) a x a' → x ≡ 0 → ((m : ℕ) → m < managers t → acks a m n ≡ 0) × (a' ≡ record a { collected = put 0 a.collected n 1 })
  collected n may d z = (
    collect_new t d.before.state d.before.hand a n d.before.kept d.before.sits may (d.found ∙ z),
    d.account ∙ ap (λ (b : Bool). cond b (record a { collected = put 0 a.collected n 1 }) a) (eq-eqb x 0 z),
  )

  pub taken : (n : ℕ) → Did t (deed.Collect n) a x a' → x ≢ 0 → a' ≡ a
  taken n d nz = d.account ∙ ap (λ (b : Bool). cond b (record a { collected = put 0 a.collected n 1 }) a) (ne_eqb x 0 nz)

  pub taken_one : (n : ℕ) → May t (deed.Collect n) a → Did t (deed.Collect n) a x a' → x ≢ 0 → x ≡ 1
  taken_one n may d nz = let s = d.before in let f = d.found in let o = (s.kept.collectors n may.0).one_collector in omega arith

  -- who finds that nobody collects doesn't either
  pub first_turn : (n : ℕ) → May t (deed.Collect n) a → Did t (deed.Collect n) a x a' → x ≡ 0 → collects a n ≡ 0
  first_turn n may d z =
      let s = d.before in let w = (s.kept.collectors n may.0).collector in let f = d.found in
      let l = le_sum (λ (y : Account). collects y n) s.state.accounts s.hand a s.sits in omega arith

  pub own_turn : (n : ℕ) → May t (deed.Collect n) a → Did t (deed.Collect n) a x a' → a.weight ≡ t.hands → collects a n ≡ x
  own_turn n may d w = let s = d.before in sym (whole_collects t s.state s.hand a s.kept s.sits w n may.0) ∙ d.found

  pub looked : (m n : ℕ) → May t (deed.Look m n) a → Did t (deed.Look m n) a x a' → (knows a m n ≤ x) × (posts a m n ≤ x)
  looked m n may d = let s = d.before in let l = look_more t s.state s.hand a m n s.kept s.sits may in let f = d.found in (omega arith, omega arith)

  pub ack_found : (m n k : ℕ) → May t (deed.Ack m n k) a → Did t (deed.Ack m n k) a x a' → k ≤ x
  ack_found m n k may d = let s = d.before in let f = d.found in let l = enough t s.state s.hand a m n k s.kept s.sits may in omega arith

  pub climb_found : (c : ℕ) → May t (deed.Climb c) a → Did t (deed.Climb c) a x a' → 1 ≤ x
  climb_found c may d = let s = d.before in let f = d.found in let l = some_kids t s.state s.hand a c s.kept s.sits may in omega arith

-- the account after a deed that took from its word, by its answer
pub reached_is : (t : Shape) (j x : ℕ) (b : Account) (r : After) → IsAfter t j x r → reached t j x b ≡ holding r b
reached_is t j x b (Left y) e = let l = e.1 in reached_not t j x b (λ z. omega arith)
reached_is t j x b (Duty k) e = reached_duty t j x b e.1 (let l = e.2 in λ q. omega arith) ∙ ap (λ (n : ℕ). record b { duties = put false b.duties n true }) (sym e.0)
reached_is t j x b Root e = reached_root t j x b e.0 e.1

pub holds_it : (t : Shape) (j x : ℕ) (b a : Account) (r : After) → IsAfter t j x r → a ≡ holding r b → Holds t r a
holds_it t j x b a (Left y) e is = tt
holds_it t j x b a (Duty k) e is = (let l = e.2 in let q = e.0 in omega arith, ap (λ (c : Account). has_duty c k.0) is ∙ put_here false b.duties k.0 true)
holds_it t j x b a Root e is = ap (λ (c : Account). c.at_root) is

-- a duty that comes of a climb is higher, since parents are
pub climbs_higher : (t : Shape) (c x : ℕ) (r : After) → Sized t → c < root t → IsAfter t (parent t c) x r → IsHigher c r
climbs_higher t c x (Left y) z l e = tt
climbs_higher t c x (Duty k) z l e = let p = z.parents_above c l in let q = e.0 in omega arith
climbs_higher t c x Root z l e = tt
