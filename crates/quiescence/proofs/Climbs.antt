-- Duties that are passed on.
use Rattle.std.proofs.Common.{◌≡◌, ◌≢◌, ℕ, suc, ◌-◌, ◌<◌, true, false, refl, sym, ap, ◌∙◌, subst, arith}
use mathlib.Core.Logic.{dite}
use native.Mathlib.Decide.{ℕ_discrete}
use Rattle.quiet_core.specs.Account.{Account, has_duty}
use Rattle.quiet_core.proofs.Sums.{put_here, put_else}
use Rattle.quiescence.specs.Answers.{IsHigher, NoDuty, OnlyDuty, holding, relieved, way_up}
use Rattle.quiescence.specs.declared.answers.After.{After}
use Rattle.quiescence.specs.declared.answers.After.TheVariants.{Left, Duty, Root}

-- who had no duty holds the one that was answered alone
pub only_holding : (r : After) (a : Account) → NoDuty a → OnlyDuty r (holding r a)
only_holding (Left y) a h = h
only_holding (Duty k) a h = λ c ne. put_else false a.duties k.0 c true ne ∙ h c
only_holding Root a h = h

none_relieved : (n : ℕ) (a : Account) → ((c : ℕ) → c ≢ n → has_duty a c ≡ false) → NoDuty (relieved n a)
none_relieved n a h c = dite (ℕ_discrete c n)
    (λ e. subst (λ (z : ℕ). has_duty (relieved n a) z ≡ false) (sym e) (put_here false a.duties n false))
    (λ ne. put_else false a.duties n c false ne ∙ h c ne)

-- after a climb from the only duty
pub only_climbed : (r : After) (n : ℕ) (a a' : Account) → ((c : ℕ) → c ≢ n → has_duty a c ≡ false) → a' ≡ holding r (relieved n a) → OnlyDuty r a'
only_climbed r n a a' h e = subst (λ (b : Account). OnlyDuty r b) (sym e) (only_holding r (relieved n a) (none_relieved n a h))

-- a climb changes duties and Root alone
rest : (a b a' : Account) → a' ≡ b → b ≡ record a { duties = b.duties; at_root = b.at_root } → a' ≡ record a { duties = a'.duties; at_root = a'.at_root }
rest a b a' e f = e ∙ f ∙ ap (λ (z : Account). record a { duties = z.duties; at_root = z.at_root }) (sym e)

pub climb_rest : (r : After) (n : ℕ) (a a' : Account) → a' ≡ holding r (relieved n a) → a' ≡ record a { duties = a'.duties; at_root = a'.at_root }
climb_rest (Left y) n a a' e = rest a _ a' e refl
climb_rest (Duty k) n a a' e = rest a _ a' e refl
climb_rest Root n a a' e = rest a _ a' e refl

pub more_rest : (a b c : Account) → b ≡ record a { duties = b.duties; at_root = b.at_root } → c ≡ record b { duties = c.duties; at_root = c.at_root } → c ≡ record a { duties = c.duties; at_root = c.at_root }
more_rest a b c e f = f ∙ ap (λ (z : Account). record z { duties = c.duties; at_root = c.at_root }) e

-- the way up is shorter after a climb
pub way_falls : (top n : ℕ) (r : After) → n < top → IsHigher n r → way_up top r < suc (top - n)
way_falls top n (Left y) l h = omega arith
way_falls top n (Duty k) l h = omega arith
way_falls top n Root l h = omega arith
