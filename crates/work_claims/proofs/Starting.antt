-- What a hand may do that has done nothing.
use Rattle.std.proofs.Common.{◌≡◌, ℕ, true, false, [], refl, ap, sym, Result, Ok, Err, OnOk, is_err}
use Rattle.std.proofs.lemmas.List.Elements.{All-nil}
use Rattle.actor_trait.specs.Meaning.{Meaning}
use Rattle.quiet_core.specs.Account.{Account, Shape, blank, opened, done}
use Rattle.quiet_core.proofs.Blank.{mark_none, met_none, posts_none, duty_none}
use Rattle.sim_model.specs.Moment.{is_among}
use Rattle.work_claims.specs.Acting.{IsNew, Tells}
use Rattle.work_claims.specs.Placed.{IsMeant, Placed}

pub new_blank : (t : Shape) (managers w : ℕ) → IsNew managers (record (blank t) { weight = w })
new_blank t managers w = record {
  claims = refl;
  not_met = met_none t;
  rest = record { none_open = λ m i. ap opened (mark_none t m i); no_duty = duty_none t };
  none_done = λ m i. ap done (mark_none t m i);
  none_posted = λ m n lm ln. posts_none t m n;
}

-- no report tells of it
pub tells_nothing : {A : Type 0} (m : Meaning A) (p : Placed A) (a : Account) → IsNew p.managers a → Tells m p [] a
tells_nothing m p a new = record {
  once = λ k i lk li. sym (new.none_done k i);
  meant = All-nil (IsMeant m p);
  scheduled = All-nil (λ r. is_among p.world.scheduled r.id ≡ true);
  posted = λ k n lk ln. new.none_posted k n lk ln;
}

-- what holds of a success holds where there is no failure
pub held_unless_err : {T F : Type 0} (r : Result T F) (P : Type 0) → is_err r ≡ false → OnOk r P → P
held_unless_err (Ok x) P calm held = held
held_unless_err (Err e) P calm held = absurd (clash calm) where
  clash : true ≡ false → ⊥
  clash z = cc
