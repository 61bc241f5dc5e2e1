-- A collect phase as a whole: turns, and then the letters of those that were taken.
use Rattle.std.proofs.Common.{◌≡◌, ℕ, ◌<◌, ◌≤◌, ◌⊎◌, inl, inr, Bool, true, false, List, [], cond, get_or, refl, ap, ◌∙◌, arith}
use Rattle.quiet_core.specs.Rows.{at_pair}
use Rattle.quiet_core.specs.Account.{Shape, Account, managers, acks, knows, collects}
use Rattle.sim_base.specs.declared.ids.ActorId.{ActorId}
use Rattle.actor_trait.specs.InboxOrder.{inbox_order}
use Rattle.actor_trait.specs.Meaning.{Meaning}
use Rattle.actor_trait.specs.declared.letter.Letter.{Letter}
use Rattle.quiescence.specs.Answers.{NoDuty}
use Rattle.sim_model.specs.declared.report.Report.{Report}
use Rattle.work_claims.specs.Collecting.{AreInboxesTo, CameTo, CollectedAll, Collects, IsTurnOf, Took, Turned, inbox_in}
use Rattle.work_claims.specs.Letters.{letters_sent}
use Rattle.work_claims.specs.Placed.{FitsRound, IsPlaced, Placed, precedence_of}
use Rattle.work_claims.proofs.Turning.{stays_trans}

-- a turn that was taken, or not
came_to : (n : ℕ) (b : Bool) (a c : Account) → IsTurnOf n b a c → b ≡ true → CameTo n a c
came_to n true a c t e = t
came_to n false a c t e = cc

not_came : (n : ℕ) (b : Bool) (a c : Account) → IsTurnOf n b a c → b ≡ false → collects c n ≡ collects a n
not_came n true a c t e = cc
not_came n false a c t e = t

is_mine : (n : ℕ) (b : Bool) (a c : Account) → IsTurnOf n b a c → CameTo n a c → b ≡ true
is_mine n true a c t e = refl
is_mine n false a c t e = let x = e.0 in let y = e.1 in absurd (omega arith)

isnt_mine : (n : ℕ) (b : Bool) (a c : Account) → IsTurnOf n b a c → collects c n ≡ collects a n → b ≡ false
isnt_mine n true a c t e = let x = t.0 in let y = t.1 in absurd (omega arith)
isnt_mine n false a c t e = refl

module _ (t : Shape) (mine : List Bool) (a b c : Account) (turned : Turned t 0 (managers t) [] mine a b) (took : Took t (managers t) mine b c) where
  turn : (n : ℕ) → n < managers t → IsTurnOf n (get_or mine n false) a c
  turn n ln = told (get_or mine n false) (turned.turns n (omega arith) ln) where
    same : collects c n ≡ collects b n
    same = ap (λ (l : List ℕ). get_or l n 0) took.collected

    told : (x : Bool) → IsTurnOf n x a b → IsTurnOf n x a c
    told true e = (e.0, same ∙ e.1)
    told false e = same ∙ e

  knows_first : (m n : ℕ) → knows b m n ≡ knows a m n
  knows_first m n = ap (λ (l : List (List ℕ)). at_pair l m n) turned.known

  acks_first : (m n : ℕ) → acks b m n ≡ acks a m n
  acks_first m n = ap (λ (l : List (List ℕ)). at_pair l m n) turned.acked

  pub collects_all : Collects t a c
  collects_all = record {
    stays = stays_trans a b c turned.stays took.stays;
    knows_more = λ m n lm ln. more m n lm ln (get_or mine n false) refl;
    still = λ n ln e. stays_so n ln e (get_or mine n false) refl (turn n ln);
  } where
    more : (m n : ℕ) → m < managers t → n < managers t → (x : Bool) → get_or mine n false ≡ x → knows a m n ≤ knows c m n
    more m n lm ln true e = let w = (took.took n m ln e lm).more in let f = knows_first m n in omega arith
    more m n lm ln false e = let w = (took.others n m e).knows in let f = knows_first m n in omega arith

    stays_so : (n : ℕ) → n < managers t → collects a n ≡ 1 → (x : Bool) → get_or mine n false ≡ x → IsTurnOf n x a c
        → (collects c n ≡ 1) × ((m : ℕ) → m < managers t → acks c m n ≡ acks a m n)
    stays_so n ln e true f g = let x = g.0 in absurd (omega arith)
    stays_so n ln e false f g = (g ∙ e, λ m lm. (took.others n m f).acks ∙ acks_first m n)

  pub collected_all : CollectedAll t a c
  collected_all = record {
    tried = λ n ln. told n (get_or mine n false) (turn n ln);
    came = λ m n lm ln e. let w = took.took n m ln (is_mine n (get_or mine n false) a c (turn n ln) e) lm in (w.all, w.own);
    left = λ m n lm ln e. (took.others n m (isnt_mine n (get_or mine n false) a c (turn n ln) e)).acks ∙ acks_first m n;
    own = λ w n ln. ap (λ (l : List ℕ). get_or l n 0) took.collected ∙ turned.own w n (omega arith) ln;
  } where
    told : (n : ℕ) (x : Bool) → IsTurnOf n x a c → CameTo n a c ⊎ (collects c n ≡ collects a n)
    told n true e = inl e
    told n false e = inr e

  pub inboxes_all : {A : Type 0} (m : Meaning A) (p : Placed A) → IsPlaced p → FitsRound p t → (reports : List (Report A)) (parts : List (List Letter))
      → ((to : ActorId) → inbox_in parts to ≡ cond (get_or mine (p.route to) false) (inbox_order (letters_sent m p reports) to (precedence_of p)) [])
      → AreInboxesTo m p reports a c parts
  inboxes_all {A} m p placed fits reports parts each = record {
    came = λ to e. each to ∙ ap (λ (x : Bool). cond x (inbox_order (letters_sent m p reports) to (precedence_of p)) [])
        (is_mine (p.route to) (get_or mine (p.route to) false) a c (turn (p.route to) (within to)) e);
    left = λ to e. each to ∙ ap (λ (x : Bool). cond x (inbox_order (letters_sent m p reports) to (precedence_of p)) [])
        (isnt_mine (p.route to) (get_or mine (p.route to) false) a c (turn (p.route to) (within to)) e);
  } where
    within : (to : ActorId) → p.route to < managers t
    within to = let h = placed.routes to in let f = fits.managers_are in omega arith

-- where memory was wanted after the turns
pub collects_turns : (t : Shape) (mine : List Bool) (a b : Account) → Turned t 0 (managers t) [] mine a b → Collects t a b
collects_turns t mine a b turned = record {
  stays = turned.stays;
  knows_more = λ m n lm ln. let f = ap (λ (l : List (List ℕ)). at_pair l m n) turned.known in omega arith;
  still = λ n ln e. stays_so n ln e (get_or mine n false) (turned.turns n (omega arith) ln);
} where
  stays_so : (n : ℕ) → n < managers t → collects a n ≡ 1 → (x : Bool) → IsTurnOf n x a b
      → (collects b n ≡ 1) × ((m : ℕ) → m < managers t → acks b m n ≡ acks a m n)
  stays_so n ln e true g = let x = g.0 in absurd (omega arith)
  stays_so n ln e false g = (g ∙ e, λ m lm. ap (λ (l : List (List ℕ)). at_pair l m n) turned.acked)

-- what the hand collects of its turns, and has not acknowledged
pub mine_collects : (t : Shape) (mine : List Bool) (a b : Account) → Turned t 0 (managers t) [] mine a b
    → (n : ℕ) → n < managers t → get_or mine n false ≡ true → collects b n ≡ 1
mine_collects t mine a b turned n ln e = (came_to n (get_or mine n false) a b (turned.turns n (omega arith) ln) e).1

pub mine_unacked : (t : Shape) (mine : List Bool) (a b : Account) → Turned t 0 (managers t) [] mine a b
    → (n m : ℕ) → n < managers t → get_or mine n false ≡ true → m < managers t → acks b m n ≡ 0
mine_unacked t mine a b turned n m ln e lm =
    ap (λ (l : List (List ℕ)). at_pair l m n) turned.acked ∙ turned.unacked n m (omega arith) ln e lm

pub turns_no_duty : (t : Shape) (mine : List Bool) (a b : Account) → Turned t 0 (managers t) [] mine a b → NoDuty a → NoDuty b
turns_no_duty t mine a b turned none n = ap (λ (l : List Bool). get_or l n false) turned.duties ∙ none n
