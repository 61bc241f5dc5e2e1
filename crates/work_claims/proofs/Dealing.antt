-- Hands that are dealt anew, and what each gives.
use Rattle.std.proofs.Common.{◌≡◌, ℕ, zero, suc, ◌+◌, ◌<◌, ◌≤◌, Bool, List, [], ◌∷◌, length, map, get_or, replicate, sym, ap, ◌∙◌, subst, arith}
use Rattle.std.specs.List.{All, remove}
use Rattle.std.proofs.lemmas.List.{get_or-map, get_or-replicate, length-map, length-replicate}
use Rattle.std.proofs.lemmas.List.Elements.{All-nil}
use Rattle.actor_trait.specs.Meaning.{Meaning}
use Rattle.quiet_core.specs.Rows.{at_pair}
use Rattle.quiet_core.specs.Account.{Account, collects, managers, posts}
use Rattle.quiet_core.proofs.Blank.{duty_none}
use Rattle.quiescence.specs.Answers.{NoDuty}
use Rattle.quiescence.specs.Joint.{helper, keeper}
use Rattle.quiescence.specs.Rule.{Holding, RoundId}
use Rattle.sim_model.specs.declared.report.Report.{Report}
use Rattle.work_claims.specs.Placed.{FitsRound, Placed}
use Rattle.work_claims.specs.Together.{Gathered, Helped, IsDone, Phased}
use Rattle.work_claims.specs.declared.acted.Collected.{Collected}
use Rattle.work_claims.specs.declared.seats.Seat.{Seat}
use Rattle.work_claims.proofs.Phases.{helped, kept}

-- the seats of a first hand and of others that are alike
module _ (seats : List Seat) (first other : Holding) (n : ℕ) (are : map (λ s. s.hand) seats ≡ first ∷ replicate n other) where
  pub seats_many : length seats ≡ 1 + n
  seats_many = let long = length-map seats (λ s. s.hand) in let all = ap (λ l. length l) are in let many = length-replicate n other in omega arith

  pub first_seat : (s : Seat) → (get_or seats 0 s).hand ≡ first
  first_seat s = let many = seats_many in sym (get_or-map (λ q. q.hand) seats 0 s first (omega arith)) ∙ ap (λ l. get_or l 0 first) are

  pub other_seat : (k : ℕ) (s : Seat) → k < n → (get_or seats (suc k) s).hand ≡ other
  other_seat k s lt = let many = seats_many in
      sym (get_or-map (λ q. q.hand) seats (suc k) s first (omega arith)) ∙ ap (λ l. get_or l (suc k) first) are ∙ get_or-replicate n k other first lt

  pub all_seats : (P : Holding → Type 0) → P first → P other → All (λ s. P s.hand) seats
  all_seats P one more zero s lt = subst P (sym (first_seat s)) one
  all_seats P one more (suc k) s lt = let many = seats_many in subst P (sym (other_seat k s (omega arith))) more

module _ {A : Type 0} (m : Meaning A) (p : Placed A) (r : RoundId) (fits : FitsRound p r.shape) (reports : List (Report A)) (a : Account)
    (work : IsDone m p reports a) (known : List (List ℕ))
    (knows_all : (k n : ℕ) → k < managers r.shape → n < managers r.shape → posts a k n ≤ at_pair known k n)
    (collecting : Bool) (none : (n : ℕ) → n < p.managers → collects a n ≡ 0) (seats : List Seat) (n : ℕ)
    (are : map (λ s. s.hand) seats ≡ keeper r a known collecting ∷ replicate n (helper r known))
    (all : List Collected) (count : length all ≡ length seats)
    (each : (i : ℕ) (s : Seat) (d : Collected) → i < length all → Phased m p r reports (get_or seats i s).hand (get_or all i d)) where
  seat_at : (i : ℕ) → i < length seats → Seat
  seat_at i lt = pick seats lt where
    pick : (l : List Seat) → i < length l → Seat
    pick [] lt = absurd (omega arith)
    pick (s ∷ ss) lt = s

  pub first_gathered : (d : Collected) → Gathered m p r 1 reports (get_or all 0 d)
  first_gathered d =
      let many = seats_many seats (keeper r a known collecting) (helper r known) n are in
      let s : Seat = seat_at 0 (omega arith) in
      kept m p r fits reports a work known knows_all collecting none (get_or all 0 d)
      (subst (λ h. Phased m p r reports h (get_or all 0 d)) (first_seat seats (keeper r a known collecting) (helper r known) n are s)
      (each 0 s d (omega arith)))

  pub others_helped : (k : ℕ) (d : Collected) → k < n → Helped m p r reports (get_or all (suc k) d)
  others_helped k d lt =
      let many = seats_many seats (keeper r a known collecting) (helper r known) n are in
      let s : Seat = seat_at 0 (omega arith) in
      helped m p r fits reports a work known knows_all (get_or all (suc k) d)
      (subst (λ h. Phased m p r reports h (get_or all (suc k) d)) (other_seat seats (keeper r a known collecting) (helper r known) n are k s lt)
      (each (suc k) s d (omega arith)))

  pub rest_helped : All (Helped m p r reports) (remove all 0)
  rest_helped = told all count others_helped where
    told : (cs : List Collected) → length cs ≡ length seats → ((k : ℕ) (d : Collected) → k < n → Helped m p r reports (get_or cs (suc k) d))
        → All (Helped m p r reports) (remove cs 0)
    told [] c h = All-nil (Helped m p r reports)
    told (x ∷ cs) c h = λ k d lt. let many = seats_many seats (keeper r a known collecting) (helper r known) n are in h k d (omega arith)

pub no_duty_helper : (r : RoundId) (known : List (List ℕ)) → NoDuty (helper r known).account
no_duty_helper r known = duty_none r.shape
