-- A split of a hand, and the opening splits.
use Rattle.quiet_core.proofs.Blank.{mark_none, met_none, posts_none, knows_none, acks_none, collects_none, duty_none, count_none, acked_none, past_blank}
use Rattle.std.proofs.Common.{◌≡◌, ℕ, zero, suc, ◌+◌, ◌-◌, ◌≤◌, ◌≢◌, ◌⊎◌, inl, inr, Bool, true, false, ◌||◌, cond, List, [], ◌∷◌, ◌++◌, set, sum_by, sym, refl, ap, ◌∙◌, subst, ⊎_elim, true≢false, arith, max}
use mathlib.Core.Option.{some, some-injective, some-ne-none}
use lib.ListN.{get_elem?}
use Rattle.std.proofs.lemmas.List.Sums.{sum_by_push}
use Rattle.quiet_core.specs.Rows.{bit, at_pair}
use Rattle.quiet_core.specs.Account.{no_pairs, Shape, scheduled, Account, blank, mark, has_met, posts, knows, acks, collects, has_duty, entered, opened, plain, owing}
use Rattle.quiet_core.specs.Step.{new_part, State, word, claim_at, issued_at, kept_part, split, grown}
use Rattle.quiet_core.specs.Balance.{Each, past, open_at, plain_at, owed_at, acked_at, Balance}
use Rattle.quiet_core.proofs.Sums.{sum_turns, each_turn}
use Rattle.quiet_core.proofs.Untouched.{cond_le, past_none}
-- the accounts ys have the sums of xs, and are as good
use Rattle.quiet_core.specs.Clear.{Clear}
use Rattle.quiet_core.proofs.Clearing.{blank_clear}
use Rattle.quiet_core.proofs.Parting.{alike_keeps}

at_snoc : {A : Type 0} (l : List A) (a b : A) (j : ℕ) → get_elem? (l ++ a ∷ []) j ≡ some b → (get_elem? l j ≡ some b) ⊎ (a ≡ b)
at_snoc [] a b zero e = inr (some-injective a b e)
at_snoc [] a b (suc j) e = absurd (some-ne-none b (sym e))
at_snoc (x ∷ xs) a b zero e = inl e
at_snoc (x ∷ xs) a b (suc j) e = at_snoc xs a b j e

or_all : (x : Bool) → x || true ≡ true
or_all true = refl
or_all false = refl

module _ (t : Shape) (s : State) (w : Balance t s) where
  abbrev more : List Account
  more = s.accounts ++ (blank t) ∷ []

  same : (f : Account → ℕ) → f (blank t) ≡ 0 → sum_by f more ≡ sum_by f s.accounts
  same f z = let r = sum_by_push f s.accounts (blank t) in omega arith

  old : (P : Account → Type 0) → Each s.accounts P → P (blank t) → Each more P
  old P p q h a at = ⊎_elim (p h a) (λ e. subst P e q) (at_snoc s.accounts (blank t) a h at)

  pub grown_keeps : Balance t (grown t s)
  grown_keeps = alike_keeps t s more w record {
    weights = record { whole = same (λ (a : Account). a.weight) refl ∙ w.weights.whole; spent = old (λ a. a.weight ≡ 0 → a ≡ (blank t)) w.weights.spent (λ z. refl) };
    entries = λ m i lm. same (λ (a : Account). entered (mark a m i)) (ap entered (mark_none t m i));
    over = λ m lm. old (λ a. has_met a m ≡ true → scheduled t m ≤ word s (claim_at t m)) (w.claims m lm).over (λ e. absurd (true≢false (sym e ∙ met_none t m)));
    pasts = λ m lm. (let r = same (past m) (past_blank t m) in omega arith);
    opens = λ m lm. same (open_at t m) (count_none t opened refl m (scheduled t m));
    plains = λ m lm. same (plain_at t m) (count_none t plain refl m (scheduled t m));
    owes = λ m lm. same (owed_at t m) (count_none t owing refl m (scheduled t m));
    ackeds = λ m lm. same (acked_at t m) (acked_none t m);
    posteds = λ m n lm ln. same (λ (a : Account). posts a m n) (posts_none t m n);
    known = λ m n lm ln. old (λ a. knows a m n ≤ word s (issued_at t m n)) (w.letters m n lm ln).known (let z = knows_none t m n in omega arith);
    collected = λ n ln. same (λ (a : Account). collects a n) (collects_none t n);
    only = λ m n lm ln. old (λ a. collects a n ≡ 0 → acks a m n ≡ 0) (w.letters m n lm ln).only_collector (λ e. acks_none t m n);
    acked = λ m n lm ln. old (λ a. acks a m n ≤ max (knows a m n) (posts a m n)) (w.letters m n lm ln).acked (let z = acks_none t m n in omega arith);
    duties = λ c. same (λ (a : Account). bit (has_duty a c)) (ap bit (duty_none t c));
    tops = same (λ (a : Account). bit a.at_root) refl;
    clear = old (Clear t) w.clear (blank_clear t 0);
  }

-- a is cut into a part that keeps all but one unit of weight, and a new part that knows k at most
module _ (t : Shape) (s : State) (h g : ℕ) (a : Account) (x : Bool) (k : List (List ℕ)) (w : Balance t s) (at : get_elem? s.accounts h ≡ some a) (ne : g ≢ h) (at' : get_elem? s.accounts g ≡ some (blank t))
    (two : 2 ≤ a.weight) (less : (m n : ℕ) → at_pair k m n ≤ knows a m n)
    (pasts : (m : ℕ) → past m a ≤ past m (record a { weight = a.weight - 1; collecting = x }) + past m (record (blank t) { weight = 1; collecting = x; known = k })) where
  abbrev l : Account
  l = record a { weight = a.weight - 1; collecting = x }

  abbrev r : Account
  r = record (blank t) { weight = 1; collecting = x; known = k }

  abbrev ys : List Account
  ys = set (set s.accounts h l) g r

  kept : (f : Account → ℕ) → f (blank t) ≡ 0 → f l ≡ f a → f r ≡ 0 → sum_by f ys ≡ sum_by f s.accounts
  kept f z e o = let q = sum_turns f s.accounts h g a l (blank t) r at ne at' in omega arith

  each : (P : Account → Type 0) → Each s.accounts P → (P a → P l) → (P a → P r) → Each ys P
  each P old left right = each_turn P (set s.accounts h l) g r (each_turn P s.accounts h l old (left (old h a at))) (right (old h a at))

  pub parts_keep : Balance t record { words = s.words; accounts = ys }
  parts_keep = alike_keeps t s ys w record {
    weights = record {
      whole = let q = sum_turns (λ (y : Account). y.weight) s.accounts h g a l (blank t) r at ne at' in let e = w.weights.whole in omega arith;
      spent = each (λ y. y.weight ≡ 0 → y ≡ (blank t)) w.weights.spent (λ p z. absurd (omega arith)) (λ p z. absurd (omega arith));
    };
    entries = λ m i lm. kept (λ (y : Account). entered (mark y m i)) (ap entered (mark_none t m i)) refl (ap entered (mark_none t m i));
    over = λ m lm. each (λ y. has_met y m ≡ true → scheduled t m ≤ word s (claim_at t m)) (w.claims m lm).over (λ p. p) (λ p e. absurd (true≢false (sym e ∙ met_none t m)));
    pasts = λ m lm. (let z = past_blank t m in let q = sum_turns (past m) s.accounts h g a l (blank t) r at ne at' in let p = pasts m in omega arith);
    opens = λ m lm. kept (open_at t m) (count_none t opened refl m (scheduled t m)) refl (count_none t opened refl m (scheduled t m));
    plains = λ m lm. kept (plain_at t m) (count_none t plain refl m (scheduled t m)) refl (count_none t plain refl m (scheduled t m));
    owes = λ m lm. kept (owed_at t m) (count_none t owing refl m (scheduled t m)) refl (count_none t owing refl m (scheduled t m));
    ackeds = λ m lm. kept (acked_at t m) (acked_none t m) refl (acked_none t m);
    posteds = λ m n lm ln. kept (λ (y : Account). posts y m n) (posts_none t m n) refl (posts_none t m n);
    known = λ m n lm ln. each (λ y. knows y m n ≤ word s (issued_at t m n)) (w.letters m n lm ln).known (λ p. p) (λ p. let q = less m n in omega arith);
    collected = λ n ln. kept (λ (y : Account). collects y n) (collects_none t n) refl (collects_none t n);
    only = λ m n lm ln. each (λ y. collects y n ≡ 0 → acks y m n ≡ 0) (w.letters m n lm ln).only_collector (λ p. p) (λ p e. acks_none t m n);
    acked = λ m n lm ln. each (λ y. acks y m n ≤ max (knows y m n) (posts y m n)) (w.letters m n lm ln).acked (λ p. p) (λ p. let z = acks_none t m n in omega arith);
    duties = λ c. kept (λ (y : Account). bit (has_duty y c)) (ap bit (duty_none t c)) refl (ap bit (duty_none t c));
    tops = kept (λ (y : Account). bit y.at_root) refl refl refl;
    clear = each (Clear t) w.clear (λ p. record { marks = p.marks; posted = p.posted; acked = p.acked; collected = p.collected })
        (λ p. record { marks = λ m i. inl (mark_none t m i); posted = λ m n. inl (posts_none t m n); acked = λ m n. inl (acks_none t m n); collected = λ n. inl (collects_none t n) });
  }

module _ (t : Shape) (s : State) (h g : ℕ) (a : Account) (w : Balance t s) (at : get_elem? s.accounts h ≡ some a) (ne : g ≢ h) (at' : get_elem? s.accounts g ≡ some (blank t)) (two : 2 ≤ a.weight) where
  pub split_keeps : Balance t (split t h a g s)
  split_keeps = parts_keep t s h g a true a.known w at ne at' two (λ m n. omega arith)
      (λ m. let e : past m (kept_part a) ≡ a.weight - 1 = ap (λ (b : Bool). cond b (a.weight - 1) 0) (or_all (has_met a m)) in
      let f : past m (new_part t a) ≡ 1 = ap (λ (b : Bool). cond b 1 0) (or_all (has_met (blank t) m)) in
      let o = cond_le (has_met a m || a.collecting) a.weight in omega arith)

  -- a split of an account that has nothing but weight leaves both parts not collecting
  pub opening_keeps : a ≡ record (blank t) { weight = a.weight } → Balance t record { words = s.words; accounts = set (set s.accounts h (record (blank t) { weight = a.weight - 1 })) g (record (blank t) { weight = 1 }) }
  opening_keeps is = subst (λ (b : Account). Balance t record { words = s.words; accounts = set (set s.accounts h b) g (record (blank t) { weight = 1 }) }) (λ i. record (is i) { weight = a.weight - 1; collecting = false })
      (parts_keep t s h g a false no_pairs w at ne at' two (λ m n. let z = knows_none t m n in omega arith)
      (λ m. let e : past m a ≡ 0 = ap (past m) is ∙ past_none (record (blank t) { weight = a.weight }) m (met_none t m) refl in omega arith))
