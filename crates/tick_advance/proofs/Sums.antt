-- The sums over closed rounds, and those over the moments of a run.
use Rattle.std.proofs.Common.{inl, inr, ◌≡◌, ℕ, zero, suc, ◌+◌, ◌-◌, ◌*◌, ◌<◌, ◌≤◌, Bool, true, false, cond, List, [], ◌∷◌, length, get_or, sum, sum_by, refl, sym, ap, ◌∙◌, arith}
use Rattle.std.specs.Prelude.{nat_eq, is_none}
use Rattle.std.proofs.lemmas.Bool.{cases_eq}
use Rattle.std.proofs.lemmas.Bool.Decides.{nat_tests}
use Rattle.std.proofs.lemmas.List.Sums.{length-filter, sum_by-cons}
use Rattle.sim_base.specs.declared.ids.ActorId.{ActorId}
use Rattle.sim_base.specs.declared.moment.Moment.{Moment}
use Rattle.actor_trait.specs.Faults.{fault_shown}
use Rattle.actor_trait.specs.Meaning.{Meaning}
use Rattle.actor_trait.specs.declared.letter.Parcel.{Parcel}
use Rattle.quiet_core.specs.Rows.{below, bit}
use Rattle.quiet_core.proofs.Sums.{below_same, below_zero, sum_below}
use Rattle.quiescence.specs.Ended.{Closing}
use Rattle.quiescence.specs.Rounds.{RoundSums, up_to_end, with_round}
use Rattle.quiescence.proofs.Totals.{below_rows, sum_is_below}
use Rattle.sim_model.specs.Moment.{is_alive, reports}
use Rattle.sim_model.specs.declared.report.Report.{Report}
use Rattle.local_manager.specs.Directories.{AllBelow, home_of}
use Rattle.local_manager.specs.Views.{WorldParts, managers_of, route_in}
use Rattle.work_claims.specs.Harvest.{IsClosing}
use Rattle.work_claims.specs.Letters.{letters_between, parcels_to, sends_between, sends_to}
use Rattle.work_claims.specs.Worlds.{placed_in}
use Rattle.tick_advance.specs.RoundsOf.{sends_at, with_moment, with_work}

-- ---- sums in which one term stands

none_of : (f : ℕ → ℕ) (n : ℕ) → ((k : ℕ) → k < n → f k ≡ 0) → below f n ≡ 0
none_of f n none = below_same f (λ _. 0) n none ∙ below_zero n

-- x stands at h alone
one_of : (h x n : ℕ) → h < n → below (λ k. cond (nat_eq h k) x 0) n ≡ x
one_of h x zero within = absurd (omega arith)
one_of h x (suc n) within =
    elim (cases_eq h n) [
      | inl here ↦
          let rest : below (λ k. cond (nat_eq h k) x 0) n ≡ 0 = none_of (λ k. cond (nat_eq h k) x 0) n (λ k less. grind (arith, nat_tests)) in
          let last : cond (nat_eq h n) x 0 ≡ x = grind (arith, nat_tests) in
          omega arith
      | inr apart ↦
          let rest : below (λ k. cond (nat_eq h k) x 0) n ≡ x = one_of h x n (omega arith) in
          let last : cond (nat_eq h n) x 0 ≡ 0 = grind (arith, nat_tests) in
          omega arith
    ]

sum_alike : {X : Type 0} (f g : X → ℕ) (xs : List X) → ((x : X) → f x ≡ g x) → sum_by f xs ≡ sum_by g xs
sum_alike f g [] same = refl
sum_alike f g (x ∷ xs) same =
    let first : f x ≡ g x = same x in
    let rest : sum_by f xs ≡ sum_by g xs = sum_alike f g xs same in
    omega (arith, sum_by-cons f x xs, sum_by-cons g x xs)

sum_ones : {X : Type 0} (xs : List X) → sum_by (λ _. 1) xs ≡ length xs
sum_ones [] = refl
sum_ones {X} (x ∷ xs) = let rest = sum_ones xs in omega (arith, sum_by-cons (λ (y : X). 1) x xs)

bit_of : (h n : ℕ) → h < n → below (λ k. bit (nat_eq h k)) n ≡ 1
bit_of h n within = below_same (λ k. bit (nat_eq h k)) (λ k. cond (nat_eq h k) 1 0) n (λ k less. by (nat_eq h k)) ∙ one_of h 1 n within
  where
    by : (b : Bool) → bit b ≡ cond b 1 0
    by true = refl
    by false = refl

home_below : (n : ℕ) (homes : List ℕ) (k : ℕ) → 1 ≤ n → AllBelow n homes → get_or homes k 0 < n
home_below n [] k some below = omega arith
home_below n (x ∷ xs) zero some below = below.0
home_below n (x ∷ xs) (suc k) some below = home_below n xs k some below.1

-- ---- the sums with one more

abbrev with_numbers : RoundSums → ℕ → ℕ → RoundSums
with_numbers sums scheduled posted = record {
  rounds = up_to_end sums.rounds 1;
  scheduled = up_to_end sums.scheduled scheduled;
  posted = up_to_end sums.posted posted;
}

with_some : {A : Type 0} (m : Meaning A) (at : Moment) (ids : List ActorId) (rs : List (Report A)) (sums : RoundSums) → 1 ≤ length ids
    → with_numbers sums (length ids) (sum_by (sends_at m at) rs) ≡ with_work m at ids rs sums
with_some m at [] rs sums somebody = absurd (omega arith)
with_some m at (id ∷ ids) rs sums somebody = refl

-- ---- the numbers of a closed round

module _ {A : Type 0} (m : Meaning A) (w : WorldParts A) (closed : Closing) (some : 1 ≤ managers_of w) (homes : AllBelow (managers_of w) w.placed.homes) (h : IsClosing m (placed_in w) closed) where
  abbrev M : ℕ
  M = managers_of w

  home_within : (id : ActorId) → home_of w.placed.homes id < M
  home_within id = home_below M w.placed.homes (id.0 - 1) some homes

  route_within : (id : ActorId) → route_in w id < M
  route_within id = told (is_alive w.one.states id)
    where
      told : (b : Bool) → cond b (home_of w.placed.homes id) 0 < M
      told true = home_within id
      told false = some

  all_scheduled : sum closed.scheduled ≡ length w.one.scheduled
  all_scheduled =
      let ids : List ActorId = w.one.scheduled in
      let one : ActorId → ℕ → ℕ = λ id k. cond (nat_eq (home_of w.placed.homes id) k) 1 0 in
      sum_is_below closed.scheduled
      ∙ ap (below (λ k. get_or closed.scheduled k 0)) h.managers
      ∙ below_same (λ k. get_or closed.scheduled k 0) (λ k. sum_by (λ id. one id k) ids) M
      (λ k less. h.scheduled k less ∙ length-filter (λ id. nat_eq (home_of w.placed.homes id) k) ids)
      ∙ sym (sum_below one ids M)
      ∙ sum_alike (λ id. below (one id) M) (λ _. 1) ids (λ id. one_of (home_of w.placed.homes id) 1 M (home_within id))
      ∙ sum_ones ids

  -- the letters that one report sends, by the manager of the recipient
  all_parcels : (parcels : List Parcel) → below (λ n. parcels_to (placed_in w) n parcels) M ≡ length parcels
  all_parcels parcels =
      let one : Parcel → ℕ → ℕ = λ l n. bit (nat_eq (route_in w l.to) n) in
      sym (sum_below one parcels M) ∙ sum_alike (λ l. below (one l) M) (λ _. 1) parcels (λ l. bit_of (route_in w l.to) M (route_within l.to)) ∙ sum_ones parcels

  all_sends : (r : Report A) → below (λ n. sends_to m (placed_in w) n r.outcome) M ≡ sends_at m w.moment r
  all_sends r = by (is_none (fault_shown m r.outcome w.moment))
    where
      by : (b : Bool) → below (λ n. cond b (parcels_to (placed_in w) n r.outcome.sends) 0) M ≡ cond b (length r.outcome.sends) 0
      by true = all_parcels r.outcome.sends
      by false = below_zero M

  -- ... and by its own manager
  all_between : (r : Report A) → below (λ k. below (λ n. sends_between m (placed_in w) k n r) M) M ≡ sends_at m w.moment r
  all_between r =
      let here : ℕ = home_of w.placed.homes r.id in
      below_same (λ k. below (λ n. sends_between m (placed_in w) k n r) M) (λ k. cond (nat_eq here k) (sends_at m w.moment r) 0) M (λ k less. by k (nat_eq here k))
      ∙ one_of here (sends_at m w.moment r) M (home_within r.id)
    where
      by : (k : ℕ) (b : Bool) → below (λ n. cond b (sends_to m (placed_in w) n r.outcome) 0) M ≡ cond b (sends_at m w.moment r) 0
      by k true = all_sends r
      by k false = below_zero M

  all_posted : sum closed.posted ≡ sum_by (sends_at m w.moment) (reports m w.one w.moment)
  all_posted =
      let rs : List (Report A) = reports m w.one w.moment in
      let between : ℕ → ℕ → Report A → ℕ = λ k n r. sends_between m (placed_in w) k n r in
      sum_is_below closed.posted
      ∙ ap (below (λ i. get_or closed.posted i 0)) h.pairs
      ∙ below_rows (λ i. get_or closed.posted i 0) M M
      ∙ below_same (λ k. below (λ n. get_or closed.posted (k * M + n) 0) M) (λ k. below (λ n. sum_by (between k n) rs) M) M
      (λ k less. below_same (λ n. get_or closed.posted (k * M + n) 0) (λ n. sum_by (between k n) rs) M (λ n low. pair k n less low))
      ∙ below_same (λ k. below (λ n. sum_by (between k n) rs) M) (λ k. sum_by (λ r. below (λ n. between k n r) M) rs) M (λ k less. sym (sum_below (λ r n. between k n r) rs M))
      ∙ sym (sum_below (λ r k. below (λ n. between k n r) M) rs M)
      ∙ sum_alike (λ r. below (λ k. below (λ n. between k n r) M) M) (sends_at m w.moment) rs all_between
    where
      pair : (k n : ℕ) → k < M → n < M → get_or closed.posted (k * M + n) 0 ≡ letters_between m (placed_in w) k n (reports m w.one w.moment)
      pair k n less low = ap (λ width. get_or closed.posted (k * width + n) 0) (sym h.managers) ∙ h.posted k n less low

  -- a closed round counts what the moment counts at which somebody is scheduled
  pub closing_counts : (sums : RoundSums) → 1 ≤ length w.one.scheduled → with_round sums closed ≡ with_moment m w.one w.moment sums
  closing_counts sums somebody =
      let counted : with_round sums closed ≡ with_numbers sums (length w.one.scheduled) (sum_by (sends_at m w.moment) (reports m w.one w.moment)) =
      ap (λ n. with_numbers sums n (sum closed.posted)) all_scheduled ∙ ap (with_numbers sums (length w.one.scheduled)) all_posted in
      counted ∙ with_some m w.moment w.one.scheduled (reports m w.one w.moment) sums somebody
