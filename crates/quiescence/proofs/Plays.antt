-- A seat may do what the core's law allows.
use Rattle.std.proofs.Common.{◌≡◌, ℕ, zero, suc, ◌∷◌, ◌++◌, map, ◌+◌, ◌-◌, ◌%◌, ◌^◌, ◌<◌, ◌≤◌, List, [], get_or, set, sym, refl, ap, ◌∙◌, subst, arith}
use mathlib.Core.Option.{some, some-injective, some-ne-none}
use mathlib.Core.Logic.{dite}
use native.Mathlib.Decide.{dec_lt}
use lib.ListN.{get_elem?, get_or-eq_default}
use lib.Seq.{set-get_or}
use Rattle.atomic_table.specs.Table.{Me, keeps, Allows, Splits, Joins}
use Rattle.atomic_table.proofs.Lists.{set_again}
use Rattle.quiet_core.specs.Account.{Shape, managers, root, Account, blank}
use Rattle.quiet_core.specs.declared.deed.Deed.{Deed}
use Rattle.quiet_core.specs.declared.deed.Deed.TheVariants as deed
use Rattle.quiet_core.specs.Step.{State, word, place, up, down, becomes, stays, change, changed, after, May, word_count, kept_part, new_part, united}
use Rattle.quiet_core.specs.Balance.{Balance, Sized}
use Rattle.quiet_core.proofs.Keeps as core
use Rattle.quiet_core.proofs.Sums.{pair_below, set_else}
use Rattle.quiet_core.proofs.Parting.{join_keeps}
use Rattle.quiescence.specs.Rule.{View, state_of, Kept, Stands, Plays, SeesIt}
use Rattle.std.proofs.lemmas.List.{map-set, map-append}
use Rattle.quiescence.proofs.Stands.{parted, dealt}

-- the word of a deed is one of the table's
pub place_in : (t : Shape) (d : Deed) (a : Account) → Sized t → May t d a → place t d < word_count t
place_in t (deed.Claim m) a z may = let l = may.0 in omega arith
place_in t (deed.Raise m i n) a z may = let l = may.0 in let f = z.leaves_first in omega arith
place_in t (deed.Post m i to n) a z may = let l = pair_below (managers t) m to may.0 may.1 in omega arith
place_in t (deed.Done m i) a z may = let l = may.0 in let f = z.leaves_first in omega arith
place_in t (deed.Collect n) a z may = let l = may.0 in omega arith
place_in t (deed.Look m n) a z may = let l = pair_below (managers t) m n may.0 may.1 in omega arith
place_in t (deed.Ack m n k) a z may = let l = may.0 in let f = z.leaves_first in omega arith
place_in t (deed.Climb c) a z may = dite (dec_lt c (root t)) (λ l. let p = z.parents_below c l in let m = z.some_manager in omega arith)
    (λ n. let e : get_or t.parents c 0 ≡ 0 = get_or-eq_default t.parents 0 {n = c} (omega arith) in omega arith)

abbrev pub account_of : View → Account
account_of v = v.account

pub at_account : (vs : List View) (i : ℕ) (v : View) → get_elem? vs i ≡ some v → get_elem? (map account_of vs) i ≡ some v.account
at_account [] i v e = absurd (some-ne-none v (sym e))
at_account (u ∷ us) zero v e = ap (λ (w : View). some w.account) (some-injective u v e)
at_account (u ∷ us) (suc i) v e = at_account us i v e

-- the accounts, where one view becomes v
accounts_set : (t : Shape) (ws : List ℕ) (vs : List View) (i : ℕ) (v : View) → Balance t record { words = ws; accounts = set (map account_of vs) i v.account } → Balance t record { words = ws; accounts = map account_of (set vs i v) }
accounts_set t ws vs i v w = subst (λ (l : List Account). Balance t record { words = ws; accounts = l }) (sym (map-set account_of vs i v)) w

module _ (t : Shape) (d : Deed) (slots id : ℕ) (me : Me (Unit {0}) View) (may : May t d me.0.account) where
  plays : (f : ℕ → ℕ) → ((s : State) → Balance t s → get_elem? s.accounts id ≡ some me.0.account → word s (place t d) < 2 ^ 64 → f (word s (place t d)) ≡ changed (change d) (word s (place t d)))
      → Allows (Kept t) slots id me (place t d) f (Plays t d me)
  plays f same s kept _ at small = let x : ℕ = word (state_of s) (place t d) in let sits = at_account s.views id me.0 at in (
    record me.0 { account = after t d x me.0.account },
    keeps,
    tt,
    accounts_set t (set s.words (place t d) (f x)) s.views id (record me.0 { account = after t d x me.0.account })
        (subst (λ (n : ℕ). Balance t record {
          words = set s.words (place t d) n;
          accounts = set (map account_of s.views) id (after t d x me.0.account);
        }) (sym (same (state_of s) kept sits small))
        (core.keeps t (state_of s) id me.0.account kept sits d may)),
    (refl, refl, record { before = record { state = state_of s; hand = id; kept = kept; sits = sits }; found = refl; account = refl }),
  )

  pub adds : (k : ℕ) → change d ≡ up k → Allows (Kept t) slots id me (place t d) (λ n. (n + k) % 2 ^ 64) (Plays t d me)
  adds k is = plays (λ n. (n + k) % 2 ^ 64) (λ s kept at small. core.up_is t s id me.0.account kept at d k may is)

  pub subs : (k : ℕ) → k < 2 ^ 64 → change d ≡ down k → Allows (Kept t) slots id me (place t d) (λ n. (n + (2 ^ 64 - k)) % 2 ^ 64) (Plays t d me)
  subs k fits is = plays (λ n. (n + (2 ^ 64 - k)) % 2 ^ 64) (λ s kept at small. core.down_is t s id me.0.account kept at d k may is small fits)

  pub swaps : (v : ℕ) → change d ≡ becomes v → Allows (Kept t) slots id me (place t d) (λ _. v) (Plays t d me)
  swaps v is = plays (λ _. v) (λ s kept at small. sym (ap (λ u. changed u (word s (place t d))) is))

  pub loads : change d ≡ stays → Allows (Kept t) slots id me (place t d) (λ n. n) (Plays t d me)
  loads is = plays (λ n. n) (λ s kept at small. sym (ap (λ u. changed u (word s (place t d))) is))

-- a load of word 0 changes nothing, and shows that the account stands
pub sees : (t : Shape) (slots id : ℕ) (me : Me (Unit {0}) View) → me.0.shape ≡ t → Allows (Kept t) slots id me 0 (λ n. n) (λ _. SeesIt me.0.shape me)
sees t slots id me is s kept _ at small = (
  me.0,
  keeps,
  tt,
  subst (λ (z : List ℕ × List View). Balance t record { words = z.0; accounts = map account_of z.1 }) (λ i. (sym (set-get_or s.words 0 0) i, sym (set_again s.views id me.0 at) i)) kept,
  (refl, subst (λ (z : Shape). Stands z me.0.account) (sym is) record { state = state_of s; hand = id; kept = kept; sits = at_account s.views id me.0 at }),
)

module _ (t : Shape) (id : ℕ) (v : View) (two : 2 ≤ v.account.weight) where
  -- a view that becomes one, and a new one behind all
  pair_of : (left right : View) (ws : List ℕ) (vs : List View)
      → Balance t record { words = ws; accounts = set (map account_of vs) id left.account ++ right.account ∷ [] }
      → Balance t record { words = ws; accounts = map account_of (set vs id left ++ right ∷ []) }
  pair_of left right ws vs w = subst (λ (l : List Account). Balance t record { words = ws; accounts = l })
      (sym (map-append account_of (set vs id left) (right ∷ []) ∙ ap (λ (l : List Account). l ++ right.account ∷ []) (map-set account_of vs id left))) w

  pub halves : v.shape ≡ t → Splits (Kept t) id v (record v { account = kept_part v.account }) (record v { account = new_part v.shape v.account })
  halves is s kept at = pair_of (record v { account = kept_part v.account }) (record v { account = new_part v.shape v.account }) s.words s.views
      (rw is (parted t (state_of s) id v.account kept (at_account s.views id v at) two))

  pub deals : v.shape ≡ t → v.account ≡ record (blank t) { weight = v.account.weight }
      → Splits (Kept t) id v (record v { account = record (blank v.shape) { weight = v.account.weight - 1 } }) (record v { account = record (blank v.shape) { weight = 1 } })
  deals is none s kept at = pair_of (record v { account = record (blank v.shape) { weight = v.account.weight - 1 } }) (record v { account = record (blank v.shape) { weight = 1 } }) s.words s.views
      (rw is (dealt t (state_of s) id v.account kept (at_account s.views id v at) two none))

pub joins : (t : Shape) (id : ℕ) (v : View) (other : ℕ) (w : View) → 1 ≤ v.account.weight → Joins (Kept t) id v other w (record v { account = united v.account w.account }) (record { shape = t; account = blank t })
joins t id v other w one s kept at ne at' =
    let both : View = record v { account = united v.account w.account } in
    let there = at_account s.views other w (sym (set_else s.views id other both ne) ∙ at') in
    accounts_set t s.words (set s.views id both) other (record { shape = t; account = blank t })
    (subst (λ (l : List Account). Balance t record { words = s.words; accounts = set l other (blank t) }) (sym (map-set account_of s.views id both))
    (join_keeps t (state_of s) id other v.account w.account kept (at_account s.views id v at) ne there one))
