-- The rows so far, along a run.
use Rattle.std.proofs.Common.{◌≡◌, ℕ, zero, suc, ◌+◌, ◌*◌, ◌-◌, ◌<◌, ◌≤◌, Bool, true, false, nat_le, List, [], ◌∷◌, ◌++◌, length, map}
use Rattle.std.proofs.Common.{Option, Some, None, arith, refl, ap, sym, ◌∙◌, subst}
use Rattle.std.specs.List.{All, AllPairs, flat_map}
use Rattle.std.proofs.lemmas.Bool.Decides.{nat_tests}
use Rattle.std.proofs.lemmas.List.Elements.{All-nil, All-cons, All-head, All-tail, All-weaker, All-append, All-map}
use Rattle.std.proofs.lemmas.List.Kept.{AllPairs-cons}
use Rattle.sim_base.specs.declared.moment.Moment.{Moment}
use Rattle.sim_base.specs.declared.moment.Row.{Row}
use Rattle.actor_trait.specs.Faults.{samples_unknown}
use Rattle.actor_trait.specs.Meaning.{IsLawful, Meaning}
use Rattle.actor_trait.specs.declared.outcome.Sample.{Sample}
use Rattle.sim_model.specs.Births.{births_of_moment, member_born}
use Rattle.sim_model.specs.Moment.{close, enter, fault_of_moment, first_fault, is_alive, next_id, reports, rows_of, what_comes_next}
use Rattle.sim_model.specs.Run.{follow, go_on, judge, opening, run_after, run_from, step}
use Rattle.sim_model.specs.SetupParts.{SetupParts}
use Rattle.sim_model.specs.Setups.{IsSetup}
use Rattle.sim_model.specs.Whole.{AreRows, AreRowsAt, AreUpTo, IsEarlier, IsNext, IsNotLater, IsSampled, IsWhole, IsWholeAt, RowOrder}
use Rattle.sim_model.specs.declared.cast.Member.{Member}
use Rattle.sim_model.specs.declared.next.Next.{Next}
use Rattle.sim_model.specs.declared.parameters.Parameters.{Parameters}
use Rattle.sim_model.specs.declared.next.Next.TheVariants.{Enters, Ends}
use Rattle.sim_model.specs.declared.report.Fault.{Fault}
use Rattle.sim_model.specs.declared.report.Report.{Report}
use Rattle.sim_model.specs.declared.stage.Stage.{Stage}
use Rattle.sim_model.specs.declared.stage.Stage.TheVariants.{Going, Over}
use Rattle.sim_model.specs.declared.stage.Underway.{Underway}
use Rattle.sim_model.specs.declared.world.WorldState.{WorldState}
use Rattle.sim_model.proofs.Acting.{AreReports, FitsReport, are_reports}
use Rattle.sim_model.proofs.Ascending.{pairs_append, pairs_head, pairs_nil, pairs_tail}
use Rattle.sim_model.proofs.Calm.{first_calm}
use Rattle.sim_model.proofs.Forward.{FineAt, Sound, fine_after, rank, rank_grows, step_going}
use Rattle.sim_model.proofs.Keeping.{run_whole}
use Rattle.sim_model.proofs.Standing.{alive_numbered, either_false, get_append}

-- ---- one moment

all_known : (n : ℕ) (samples : List Sample) → samples_unknown n samples ≡ false → All (λ s. s.probe < n) samples
all_known n [] e = All-nil (λ s. s.probe < n)
all_known n (s ∷ samples) e =
    let both = either_false (nat_le n s.probe) (samples_unknown n samples) e in
    All-cons (λ s. s.probe < n) s samples (grind (arith, nat_tests, both.0)) (all_known n samples both.1)

rows_sampled : {A : Type 0} (m : Meaning A) (max next : ℕ) (at : Moment) (cast : List Member) (rs : List (Report A))
    → first_fault m max next at rs ≡ None → All (FitsReport m cast) rs
    → All (λ r. 0 < r.id.0) rs → All (IsSampled cast) (flat_map (rows_of at) rs)
rows_sampled m max next at cast [] none fit positive = All-nil (IsSampled cast)
rows_sampled {A} m max next at cast (r ∷ rs) none fit positive =
    let parts = first_calm m max next at r rs none in
    All-append (IsSampled cast) (rows_of at r) (flat_map (rows_of at) rs) (mine parts.0.known)
    (rows_sampled m max (next + length r.outcome.births) at cast rs parts.1 (All-tail (FitsReport m cast) r rs fit)
    (All-tail (λ r. 0 < r.id.0) r rs positive)) where
      entry : FitsReport m cast r
      entry = All-head (FitsReport m cast) r rs fit

      first : 0 < r.id.0
      first = All-head (λ r. 0 < r.id.0) r rs positive

      mine : samples_unknown (length (m.probes r.outcome.state)) r.outcome.samples ≡ false → All (IsSampled cast) (rows_of at r)
      mine known =
          All-map (IsSampled cast) (λ s. record { at = at; actor = r.id; probe = s.probe; value = s.value }) r.outcome.samples
          (All-weaker (λ s. s.probe < length (m.probes r.outcome.state))
          (λ s. IsSampled cast (record { at = at; actor = r.id; probe = s.probe; value = s.value }))
          (λ s lt. (entry.0, entry.1, omega (arith, first), omega (arith, lt, ap (λ k. length k.probes) entry.2))) r.outcome.samples
          (all_known _ r.outcome.samples known))

same_moment : (at : Moment) (r q : Row) → r.at ≡ at → q.at ≡ at → r.actor.0 ≤ q.actor.0 → RowOrder r q
same_moment at r q e f le =
    let ticks : r.at.tick ≡ q.at.tick = ap (λ a. a.tick) (e ∙ sym f) in
    let diascas : r.at.diasca ≡ q.at.diasca = ap (λ a. a.diasca) (e ∙ sym f) in
    ((omega (arith, ticks), λ t. omega (arith, diascas)), λ t. le)

rows_made : {A : Type 0} (at : Moment) (r : Report A) → All (λ row. (row.at ≡ at) × (row.actor.0 ≡ r.id.0)) (rows_of at r)
rows_made at r = All-map (λ row. (row.at ≡ at) × (row.actor.0 ≡ r.id.0))
    (λ s. record { at = at; actor = r.id; probe = s.probe; value = s.value }) r.outcome.samples (λ k d lt. (refl, refl))

rows_by : {A : Type 0} (at : Moment) (rs : List (Report A)) (n : ℕ) → All (λ r. n < r.id.0) rs
    → All (λ row. (row.at ≡ at) × (n < row.actor.0)) (flat_map (rows_of at) rs)
rows_by at [] n h = All-nil (λ row. (row.at ≡ at) × (n < row.actor.0))
rows_by at (r ∷ rs) n h =
    All-append (λ row. (row.at ≡ at) × (n < row.actor.0)) (rows_of at r) (flat_map (rows_of at) rs)
    (All-weaker (λ row. (row.at ≡ at) × (row.actor.0 ≡ r.id.0)) (λ row. (row.at ≡ at) × (n < row.actor.0))
    (λ row f. (f.0, omega (arith, f.1, All-head (λ r. n < r.id.0) r rs h))) (rows_of at r) (rows_made at r))
    (rows_by at rs n (All-tail (λ r. n < r.id.0) r rs h))

one_actor : (at : Moment) (n : ℕ) (rows : List Row) → All (λ row. (row.at ≡ at) × (row.actor.0 ≡ n)) rows → AllPairs RowOrder rows
one_actor at n [] h = pairs_nil RowOrder
one_actor at n (r ∷ rows) h =
    let first = All-head (λ row. (row.at ≡ at) × (row.actor.0 ≡ n)) r rows h in
    let rest : All (λ row. (row.at ≡ at) × (row.actor.0 ≡ n)) rows = All-tail (λ row. (row.at ≡ at) × (row.actor.0 ≡ n)) r rows h in
    AllPairs-cons RowOrder r rows (All-weaker (λ row. (row.at ≡ at) × (row.actor.0 ≡ n)) (RowOrder r)
    (λ q f. same_moment at r q first.0 f.0 (omega (arith, first.1, f.1))) rows rest) (one_actor at n rows rest)

rows_ordered : {A : Type 0} (at : Moment) (rs : List (Report A)) → AllPairs (λ r q. r.id.0 < q.id.0) rs → AllPairs RowOrder (flat_map (rows_of at) rs)
rows_ordered at [] h = pairs_nil RowOrder
rows_ordered {A} at (r ∷ rs) h = pairs_append RowOrder (rows_of at r) (flat_map (rows_of at) rs) own
    (rows_ordered at rs (pairs_tail (λ r q. r.id.0 < q.id.0) r rs h)) cross where
      own : AllPairs RowOrder (rows_of at r)
      own = one_actor at r.id.0 (rows_of at r) (rows_made at r)

      later : All (λ row. (row.at ≡ at) × (r.id.0 < row.actor.0)) (flat_map (rows_of at) rs)
      later = rows_by at rs r.id.0 (pairs_head (λ r q. r.id.0 < q.id.0) r rs h)

      cross : All (λ row. All (RowOrder row) (flat_map (rows_of at) rs)) (rows_of at r)
      cross =
          All-weaker (λ row. (row.at ≡ at) × (row.actor.0 ≡ r.id.0)) (λ row. All (RowOrder row) (flat_map (rows_of at) rs))
          (λ row f. All-weaker (λ q. (q.at ≡ at) × (r.id.0 < q.actor.0)) (RowOrder row)
          (λ q g. same_moment at row q f.0 g.0 (omega (arith, f.1, g.1))) (flat_map (rows_of at) rs) later) (rows_of at r) (rows_made at r)

-- ---- the rows before it and its own

not_later : (a b : Moment) → IsEarlier a b → IsNotLater a b
not_later a b h = (h.0, λ e. omega (arith, h.1 e))

same_not_later : (a b : Moment) → a ≡ b → IsNotLater a b
same_not_later a b e = (omega (arith, ap (λ a. a.tick) e), λ t. omega (arith, ap (λ a. a.diasca) e))

then_earlier : (a b c : Moment) → IsNotLater a b → IsEarlier b c → IsEarlier a c
then_earlier a b c h k = (
  omega (arith, h.0, k.0),
  λ e. let first : a.tick ≡ b.tick = omega (arith, e, h.0, k.0) in let second : b.tick ≡ c.tick = omega
      (arith, e, h.0, k.0) in omega (arith, h.1 first, k.1 second),
)

before_order : (at : Moment) (r q : Row) → IsEarlier r.at at → q.at ≡ at → RowOrder r q
before_order at r q h e =
    let earlier : IsEarlier r.at q.at = subst (λ a. IsEarlier r.at a) (sym e) h in
    (not_later r.at q.at earlier, λ same. absurd (omega (arith, earlier.1 (ap (λ a. a.tick) same), ap (λ a. a.diasca) same)))

sampled_more : (cast more : List Member) (row : Row) → IsSampled cast row → IsSampled (cast ++ more) row
sampled_more cast more row h = (h.0, get_append cast more (row.actor.0 - 1) h.0 h.1, h.2, h.3)

rows_closed : {A : Type 0} (m : Meaning A) (at : Moment) (w : WorldState A) (rs : List (Report A)) (rows : List Row)
    → AreReports m w.states w.cast rs → fault_of_moment m w at rs ≡ None
    → AreRows w.cast rows → All (λ r. IsEarlier r.at at) rows
    → AreRows (close m w rs).cast (rows ++ flat_map (rows_of at) rs) × All (λ r. IsNotLater r.at at) (rows ++ flat_map (rows_of at) rs)
rows_closed {A} m at w rs rows acted none h earlier = (record { ordered = ordered; sampled = sampled }, told) where
  new : List Row
  new = flat_map (rows_of at) rs

  more : List Member
  more = map (member_born m) (births_of_moment m (next_id w) rs)

  positive : All (λ r. 0 < r.id.0) rs
  positive = All-weaker (λ r. is_alive w.states r.id ≡ true) (λ r. 0 < r.id.0)
      (λ r lives. omega (arith, alive_numbered w.states r.id lives)) rs acted.live

  at_now : All (λ row. (row.at ≡ at) × (0 < row.actor.0)) new
  at_now = rows_by at rs 0 positive

  ordered : AllPairs RowOrder (rows ++ new)
  ordered =
      pairs_append RowOrder rows new h.ordered (rows_ordered at rs acted.ascend)
      (All-weaker (λ r. IsEarlier r.at at) (λ r. All (RowOrder r) new)
      (λ r e. All-weaker (λ q. (q.at ≡ at) × (0 < q.actor.0)) (RowOrder r) (λ q f. before_order at r q e f.0) new at_now) rows earlier)

  sampled : All (IsSampled (w.cast ++ more)) (rows ++ new)
  sampled =
      All-weaker (IsSampled w.cast) (IsSampled (w.cast ++ more)) (λ row f. sampled_more w.cast more row f) (rows ++ new)
      (All-append (IsSampled w.cast) rows new h.sampled (rows_sampled m w.parameters.max_actors (next_id w) at w.cast rs none acted.fit positive))

  told : All (λ r. IsNotLater r.at at) (rows ++ new)
  told =
      All-append (λ r. IsNotLater r.at at) rows new
      (All-weaker (λ r. IsEarlier r.at at) (λ r. IsNotLater r.at at) (λ r e. not_later r.at at e) rows earlier)
      (All-weaker (λ r. (r.at ≡ at) × (0 < r.actor.0)) (λ r. IsNotLater r.at at) (λ r f. same_not_later r.at at f.0) new at_now)

-- ---- the run

follow_rows : {A : Type 0} (at : Moment) (w : WorldState A) (rows : List Row) (next : Next) → AreRows w.cast rows → All (λ r. IsNotLater r.at at) rows
    → ((u : Underway A) → follow at w rows next ≡ Going u → IsEarlier at u.next) → AreRowsAt (follow at w rows next)
follow_rows at w rows (Enters next) h told later = (h, told, later (record { last = Some at; next = next; world = w; rows = rows }) refl)
follow_rows at w rows (Ends ending) h told later = (h, told)

judge_rows : {A : Type 0} (m : Meaning A) (at : Moment) (w : WorldState A) (rows : List Row) (rs : List (Report A)) (o : Option Fault)
    → AreReports m w.states w.cast rs
    → fault_of_moment m w at rs ≡ o → AreRows w.cast rows → All (λ r. IsEarlier r.at at) rows
    → ((u : Underway A) → judge m at w rows rs o ≡ Going u → IsEarlier at u.next) → AreRowsAt (judge m at w rows rs o)
judge_rows m at w rows rs (Some f) acted none h earlier later =
    (h, All-weaker (λ r. IsEarlier r.at at) (λ r. IsNotLater r.at at) (λ r e. not_later r.at at e) rows earlier)
judge_rows m at w rows rs None acted none h earlier later =
    let closed = rows_closed m at w rs rows acted none h earlier in
    follow_rows at (close m w rs) (rows ++ flat_map (rows_of at) rs) (what_comes_next (close m w rs) at) closed.0 closed.1 later

earlier_by_rank : (p : Parameters) (a b : Moment) → b.diasca < p.diasca_limit → rank p a < rank p b → IsEarlier a b
earlier_by_rank p a b low lt = told (nat_le a.tick b.tick) refl where
  told : (c : Bool) → nat_le a.tick b.tick ≡ c → IsEarlier a b
  told true e = (
    grind (arith, nat_tests, e),
    λ same. let fits : a.tick * p.diasca_limit ≡ b.tick * p.diasca_limit = ap
        (λ t. t * p.diasca_limit) same in omega (arith, fits, lt),
  )
  told false e = let back : b.tick < a.tick = grind (arith, nat_tests, e) in absurd
      (omega (arith, lt, rank_grows b.tick a.tick p.diasca_limit b.diasca a.diasca back low))

-- the rows so far are earlier than the next moment
rows_earlier : (last : Option Moment) (next : Moment) (rows : List Row) → AreUpTo last rows → IsNext last next → All (λ r. IsEarlier r.at next) rows
rows_earlier None next rows none h = rw none (All-nil (λ r. IsEarlier r.at next))
rows_earlier (Some last) next rows told h = All-weaker (λ r. IsNotLater r.at last) (λ r. IsEarlier r.at next)
    (λ r e. then_earlier r.at last next e h) rows told

step_rows : {A : Type 0} (m : Meaning A) → IsLawful m → (u : Underway A) → Sound u.world u.next → IsWhole m (enter u.world u.next)
    → AreRowsAt (Going u) → AreRowsAt (step m u)
unfolding step
step_rows {A} m law u sound whole h =
    judge_rows m u.next (enter u.world u.next) u.rows (reports m (enter u.world u.next) u.next) _
    (are_reports m law (enter u.world u.next) u.next whole.scheduled whole.cast.fits) refl h.0
    (rows_earlier u.last u.next u.rows h.1 h.2) later where
      later : (next : Underway A) → step m u ≡ Going next → IsEarlier u.next next.next
      later next e = let on = step_going m u next sound e in earlier_by_rank u.world.parameters u.next next.next on.later.diasca on.later.rank

goes_rows : {A : Type 0} (m : Meaning A) → IsLawful m → (s : SetupParts A) (k : ℕ) (p : Stage A) → FineAt s p k → IsWholeAt m p
    → AreRowsAt p → AreRowsAt (go_on m p)
unfolding go_on
goes_rows m law s k (Going u) fine whole h = step_rows m law u fine.sound whole.1 h
goes_rows m law s k (Over e) fine whole h = h

pub run_rows : {A : Type 0} (m : Meaning A) → IsLawful m → (s : SetupParts A) → IsSetup s → (k : ℕ) → AreRowsAt (run_after m s k)
unfolding run_from
run_rows m law s setup zero = (record { ordered = pairs_nil RowOrder; sampled = All-nil (IsSampled (opening m s).world.cast) }, refl, tt)
run_rows m law s setup (suc k) = goes_rows m law s k (run_after m s k) (fine_after m s setup k) (run_whole m law s setup k) (run_rows m law s setup k)
