-- Whether somebody is called, and what comes next where somebody is.
use Rattle.std.proofs.Common.{◌≡◌, ◌+◌, ◌&&◌, not, ℕ, suc, arith, sym, ap, Bool, true, false, ◌||◌, nat_eq, nat_lt, length, map}
use Rattle.std.proofs.Common.{if◌then◌else◌, List, [], ◌∷◌, ◌++◌, refl, ◌∙◌}
use Rattle.std.proofs.lemmas.Bool.Decides.{nat_tests}
use Rattle.std.specs.BTreeSet.{insert_key}
use Rattle.std.specs.List.{fold}
use Rattle.std.specs.Ordering.{match_ordering}
use Rattle.std.specs.declared.cmp.Ordering.{Ordering}
use Rattle.std.specs.declared.cmp.Ordering.TheVariants.{Less, Equal, Greater}
use Rattle.sim_base.specs.declared.ids.ActorId.{ActorId}
use Rattle.sim_base.specs.declared.moment.Ending.TheVariants as ending
use Rattle.sim_base.specs.declared.moment.Moment.{Moment}
use Rattle.actor_trait.specs.InboxOrder.{Precedence, in_order, inbox_order}
use Rattle.actor_trait.specs.declared.letter.Letter.{Letter}
use Rattle.agenda.specs.Dues.{due_at}
use Rattle.sim_model.specs.Moment.{actor_cmp, called, in_order_once, inbox_at, living_from, next_for, next_tick, precedence_at, scheduled}
use Rattle.sim_model.specs.Moment.{what_comes_next}
use Rattle.sim_model.specs.Stepping.{is_occupied}
use Rattle.sim_model.specs.declared.next.Next.TheVariants.{Enters, Ends}
use Rattle.sim_model.specs.declared.world.WorldState.{WorldState}

inserted : (ids : List ActorId) (id : ActorId) → is_occupied (insert_key actor_cmp ids id) ≡ true
inserted [] id = refl
inserted (x ∷ xs) id = placed (actor_cmp id x) where
  placed : (o : Ordering) → is_occupied (match_ordering o (id ∷ x ∷ xs) (x ∷ xs) (x ∷ insert_key actor_cmp xs id)) ≡ true
  placed Less = refl
  placed Equal = refl
  placed Greater = refl

with_ids : (more ids : List ActorId) → is_occupied ids ≡ true → is_occupied (fold (λ done id. insert_key actor_cmp done id) ids more) ≡ true
with_ids [] ids h = h
with_ids (id ∷ more) ids h = with_ids more (insert_key actor_cmp ids id) (inserted ids id)

occupied : (id : ActorId) (ids : List ActorId) → is_occupied (in_order_once (id ∷ ids)) ≡ true
occupied id ids = with_ids ids (insert_key actor_cmp [] id) (inserted [] id)

positive : (n : ℕ) → nat_lt 0 (suc n) ≡ true
positive n = grind (arith, nat_tests)

pub somebody : (newborn : List ActorId) (ls : List Letter) → is_occupied (called newborn ls) ≡ (nat_lt 0 (length newborn) || nat_lt 0 (length ls))
somebody [] [] = refl
somebody [] (l ∷ ls) = occupied l.to (map (λ l. l.to) ls) ∙ sym (positive (length ls))
somebody (id ∷ newborn) ls = occupied id (newborn ++ map (λ l. l.to) ls) ∙ sym (ap (λ b. b || nat_lt 0 (length ls)) (positive (length newborn)))

pub by_first : (b r o : Bool) → o ≡ (b || r) → b ≡ true → b ≡ o
by_first true r o e t = sym e
by_first false r o e t = cc

pub by_second : (b r o : Bool) → o ≡ (b || r) → b ≡ false → r ≡ o
by_second true r o e t = cc
by_second false r o e t = sym e

-- at the next diasca, if it isn't the limit
next_occupied : {A : Type 0} (w : WorldState A) (at : Moment) (ids : List ActorId) → is_occupied ids ≡ true
    → next_for w at ids ≡ (if nat_eq (at.diasca + 1) w.parameters.diasca_limit then Ends ending.DiascaLimit else Enters
    (record { tick = at.tick; diasca = at.diasca + 1 }))
next_occupied w at [] h = cc
next_occupied w at (id ∷ ids) h = refl

nobody : (ids : List ActorId) → is_occupied ids ≡ false → ids ≡ []
nobody [] h = refl
nobody (id ∷ ids) h = cc

later : (d : ℕ) → nat_eq (d + 1) 0 ≡ false
later d = grind (arith, nat_tests)

scheduled_next : {A : Type 0} (w : WorldState A) (t d : ℕ) → scheduled w (record { tick = t; diasca = d + 1 }) ≡ called w.newborn w.letters
scheduled_next w t d = told (nat_eq t 0) (nat_eq (d + 1) 0) (later d) where
  told : (a b : Bool) → b ≡ false
      → (if a && b then living_from 1 w.states else
      (if not a && b then due_at t w.agenda else called w.newborn w.letters)) ≡ called w.newborn w.letters
  told a true e = cc
  told true false e = refl
  told false false e = refl

pub next_somebody : {A : Type 0} (w : WorldState A) (at : Moment) → is_occupied (called w.newborn w.letters) ≡ true
    → what_comes_next w at ≡ (if nat_eq (at.diasca + 1) w.parameters.diasca_limit then Ends ending.DiascaLimit else Enters
    (record { tick = at.tick; diasca = at.diasca + 1 }))
next_somebody w at h = ap (next_for w at) (scheduled_next w at.tick at.diasca) ∙ next_occupied w at _ h

pub next_nobody : {A : Type 0} (w : WorldState A) (at : Moment) → is_occupied (called w.newborn w.letters) ≡ false
    → what_comes_next w at ≡ next_tick w.parameters.last_tick w.agenda
next_nobody w at h = ap (next_for w at) (scheduled_next w at.tick at.diasca) ∙ ap (next_for w at) (nobody _ h)

-- ---- inboxes

pub none_in_order : (p : Precedence) → in_order p [] ≡ []
unfolding in_order
none_in_order p = refl

pub inbox_at_first : {A : Type 0} (w : WorldState A) (at : Moment) (id : ActorId) → at.diasca ≡ 0 → inbox_at w at id ≡ []
inbox_at_first w at id e = let first : nat_eq at.diasca 0 ≡ true = grind (arith, nat_tests, e) in rw first refl

pub inbox_at_later : {A : Type 0} (w : WorldState A) (at : Moment) (id : ActorId) → nat_eq at.diasca 0 ≡ false
    → inbox_at w at id ≡ inbox_order w.letters id (precedence_at w.parameters at)
inbox_at_later w at id e = rw e refl
