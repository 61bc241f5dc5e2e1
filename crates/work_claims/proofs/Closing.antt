-- The end: a whole hand that has done all and acknowledged all has closed the round.
use Rattle.std.proofs.Common.{◌≡◌, ℕ, zero, suc, ◌*◌, ◌<◌, ◌≤◌, false, nat_eq, List, get_or, length, slice_index, take, refl, sym, ap, ◌∙◌, arith}
use Rattle.std.specs.List.Sorted.{IsNonDecreasingBy, IsPermutation}
use Rattle.std.proofs.lemmas.List.Sorted.{sum_by-IsPermutation}
use Rattle.std.proofs.lemmas.List.Sums.{count_by-le-length, length-filter}
use Rattle.std.proofs.lemmas.List.{get_or-take, length-take}
use Rattle.sim_base.specs.declared.ids.ActorId.{ActorId}
use Rattle.actor_trait.specs.InboxOrder.{inbox_order}
use Rattle.actor_trait.specs.Meaning.{Meaning}
use Rattle.quiet_core.specs.Rows.{below, bit}
use Rattle.quiet_core.specs.Account.{Shape, managers, scheduled, root, Mark, free, fresh, told, reported, twice, Account, mark, posts, acks, has_duty, entered, opened, done}
use Rattle.quiet_core.proofs.Sums.{below_le, below_same, below_zero}
use Rattle.quiescence.specs.Answers.{NoDuty}
use Rattle.quiescence.specs.Counts.{done_at, posted_at}
use Rattle.quiet_core.specs.Balance.{acked_at}
use Rattle.quiescence.specs.Ended.{Closing, IsClosed, IsUnfinished}
use Rattle.quiescence.specs.Learnt.{Learnt}
use Rattle.quiescence.specs.Rule.{RoundId}
use Rattle.quiescence.specs.declared.ended.Unfinished.{Unfinished}
use Rattle.sim_model.specs.declared.report.Report.{Report}
use Rattle.work_claims.specs.Acting.{Ended}
use Rattle.work_claims.specs.Harvest.{IsClosing}
use Rattle.work_claims.specs.Collecting.{inbox_in}
use Rattle.work_claims.specs.Letters.{letters_between, letters_sent, sends_between}
use Rattle.work_claims.specs.Placed.{FitsRound, IsPlaced, Placed, precedence_of, reports_at, scheduled_at}
use Rattle.work_claims.specs.Together.{AllGathered, IsDone, IsReady, Worked}
use Rattle.work_claims.specs.declared.acted.Acted.{Acted}
use Rattle.work_claims.specs.declared.acted.Collected.{Collected}
use Rattle.work_claims.proofs.Harvesting.{harvested}
use Rattle.work_claims.proofs.Places.{among_at, place_of}

-- who is entered and not open is done
done_if : (k : Mark) → entered k ≡ 1 → opened k ≡ 0 → done k ≡ 1
done_if free e o = absurd (omega arith)
done_if fresh e o = absurd (omega arith)
done_if (told n) e o = absurd (omega arith)
done_if reported e o = refl
done_if twice e o = absurd (omega arith)

module _ {A : Type 0} (p : Placed A) (t : Shape) (fits : FitsRound p t) where
  -- a hand of the whole weight that found each manager exhausted has done all
  pub all_done : (a : Account) → Learnt t a → a.weight ≡ t.hands → Ended p.managers a
      → (k i : ℕ) → k < p.managers → i < length (scheduled_at p k) → done (mark a k i) ≡ 1
  all_done a learnt whole ended k i lk li =
      let f = fits.managers_are in let s = fits.scheduled_are k lk in
      done_if (mark a k i) ((learnt.whole whole).all_entered k i (omega arith) (ended.met k lk) (omega arith)) (ended.rest.none_open k i)

  below_ones : (n : ℕ) → below (λ _. 1) n ≡ n
  below_ones zero = refl
  below_ones (suc n) = let r = below_ones n in omega arith

  module _ (m : Meaning A) (rs : List (Report A)) (a : Account) (work : IsDone m p rs a) (none : NoDuty a)
      (acked : (k n : ℕ) → k < p.managers → n < p.managers → letters_between m p k n rs ≤ acks a k n) where
    done_row : (k : ℕ) → k < managers t → done_at t a k ≡ scheduled t k
    done_row k lk = let f = fits.managers_are in let s = fits.scheduled_are k (omega arith) in
        below_same (λ i. done (mark a k i)) (λ _. 1) (scheduled t k) (λ i li. work.all_done k i (omega arith) (omega arith)) ∙ below_ones (scheduled t k)

    acked_row : (k : ℕ) → k < managers t → posted_at t a k ≤ acked_at t k a
    acked_row k lk = below_le (λ n. posts a k n) (λ n. acks a k n) (managers t)
        (λ n ln. let f = fits.managers_are in let e = work.posted k n (omega arith) (omega arith) in let l = acked k n (omega arith) (omega arith) in omega arith)

    pub not_unfinished : (u : Unfinished) → IsUnfinished t a u → ⊥
    not_unfinished u is =
        let x = is.unreported in let y = is.unacked in let z = is.unclimbed in let s = is.something in
        let d = below_same (done_at t a) (λ k. scheduled t k) (managers t) done_row in
        let l = below_le (λ k. posted_at t a k) (λ k. acked_at t k a) (managers t) acked_row in
        let b = below_same (λ c. bit (has_duty a c)) (λ _. 0) (root t) (λ c lc. ap bit (none c)) in
        let o = below_zero (root t) in omega arith

    pub closing : (c : Closing) → IsClosed t a c → rs ≡ reports_at m p → IsClosing m p c
    closing c is same = record {
      managers = ap (λ (l : List ℕ). length l) is.scheduled ∙ fits.managers_are;
      scheduled = λ k lk. ap (λ (l : List ℕ). slice_index l k) is.scheduled ∙ fits.scheduled_are k lk;
      pairs = is.pairs ∙ ap (λ (n : ℕ). n * n) fits.managers_are;
      posted = λ k n lk ln. let f = fits.managers_are in
          is.posted k n (omega arith) (omega arith) ∙ work.posted k n lk ln ∙ ap (letters_between m p k n) same;
    }

module _ {A : Type 0} (m : Meaning A) (p : Placed A) (r : RoundId) (fits : FitsRound p r.shape) (x : Acted A)
    (worked : Worked m p r r.shape.hands x) (learnt : Learnt r.shape x.hand.account) (whole : x.short ≡ false) (sorted : List (Report A))
    (moved : IsPermutation x.reports sorted) where
  done_all : (k i : ℕ) → k < p.managers → i < length (scheduled_at p k) → done (mark x.hand.account k i) ≡ 1
  done_all = all_done p r.shape fits x.hand.account learnt worked.weight (worked.ended whole)

  -- the hand of the whole weight, with the reports in order
  pub is_ready : IsReady m p r sorted x.hand
  is_ready = record {
    of = worked.of;
    weight = worked.weight;
    no_duty = (worked.ended whole).rest.no_duty;
    none_collected = worked.none_collected;
    work = record {
      all_done = done_all;
      posted = λ k n lk ln. worked.tells.posted k n lk ln ∙ sym (sum_by-IsPermutation (sends_between m p k n) x.reports sorted moved);
    };
  }

  pub are_reports : IsPlaced p → IsNonDecreasingBy (λ q. q.id.0) sorted → sorted ≡ reports_at m p
  are_reports placed ascending = harvested m p placed x.reports sorted moved ascending worked.tells.meant worked.tells.scheduled
      (λ k i lk li. worked.tells.once k i lk li ∙ done_all k i lk li)

-- every recipient has its inbox
pub all_inboxes : {A : Type 0} (m : Meaning A) (p : Placed A) (r : RoundId) (placed : IsPlaced p) (reports : List (Report A)) (c : Collected)
    → AllGathered m p r reports c → reports ≡ reports_at m p → (to : ActorId) → inbox_in c.inboxes to ≡ inbox_order (letters_sent m p (reports_at m p)) to (precedence_of p)
all_inboxes m p r placed reports c all same to =
    (all.taken (p.route to) (placed.routes to)).inboxes to refl ∙ ap (λ l. inbox_order (letters_sent m p l) to (precedence_of p)) same

-- somebody is scheduled at some manager
pub somebody_at : {A : Type 0} (p : Placed A) → IsPlaced p → 1 ≤ length p.world.scheduled
    → (k : ℕ) × (k < p.managers) × (1 ≤ length (scheduled_at p k))
somebody_at p placed some =
    let id = get_or p.world.scheduled 0 (record { 0 = 0 }) in
    let among = among_at p.world.scheduled 0 (record { 0 = 0 }) (omega arith) in
    let q = place_of p id among in
    let lt = q.1 in
    (p.home id, placed.homes id among, omega arith)

pub few_at : {A : Type 0} (p : Placed A) → IsPlaced p → (k : ℕ) → length (scheduled_at p k) ≤ 1000000
few_at p placed k = let few = placed.few_scheduled in let same = length-filter (λ id. nat_eq (p.home id) k) p.world.scheduled in
    let most = count_by-le-length (λ id. nat_eq (p.home id) k) p.world.scheduled in omega arith

pub taken_acked : {A : Type 0} (m : Meaning A) (p : Placed A) (r : RoundId) (reports : List (Report A)) (c : Collected) → AllGathered m p r reports c
    → (k n : ℕ) → k < p.managers → n < p.managers → letters_between m p k n reports ≤ acks c.hand.account k n
taken_acked m p r reports c all k n lk ln = (all.taken n ln).acked k lk

-- the counts of a round that is opened
module _ {A : Type 0} (p : Placed A) (placed : IsPlaced p) (counts : List ℕ) (n : ℕ) (is : n ≡ p.managers) (wide : length counts ≡ 16)
    (each : (k : ℕ) → k < p.managers → slice_index counts k ≡ length (scheduled_at p k)) where
  pub few_all : (k : ℕ) → k < length (take n counts) → slice_index (take n counts) k ≤ 1000000
  few_all k lt =
      let long = length-take n counts in let same = get_or-take n counts k 0 (omega arith) in
      let count = each k (omega arith) in let few = few_at p placed k in omega arith

  pub somebody_all : 1 ≤ length p.world.scheduled → (k : ℕ) × (k < length (take n counts)) × (1 ≤ slice_index (take n counts) k)
  somebody_all some =
      let q = somebody_at p placed some in
      let lt = q.1 in let one = q.2 in let most = placed.few_managers in
      let long = length-take n counts in let same = get_or-take n counts q.0 0 (omega arith) in let count = each q.0 lt in
      (q.0, omega arith, omega arith)
