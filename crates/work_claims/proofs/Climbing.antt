-- What a report and the climbs after it leave as it was.
use Rattle.std.proofs.Common.{◌≡◌, ℕ, refl, ap, ◌∙◌}
use Rattle.quiet_core.specs.Account.{Account, Mark}
use Rattle.quiet_core.specs.Step.{put_mark}
use Rattle.quiescence.specs.Answers.{holding}
use Rattle.quiescence.specs.declared.answers.After.{After}
use Rattle.quiescence.specs.declared.answers.After.TheVariants.{Left, Duty, Root}
use Rattle.work_claims.specs.Acting.{Keeps, Still}

pub keeps_none : (a : Account) → Keeps a a
keeps_none a = record { weight = refl; collecting = refl; acked = refl; collected = refl }

pub keeps_trans : (a b c : Account) → Keeps a b → Keeps b c → Keeps a c
keeps_trans a b c p q = record {
  weight = q.weight ∙ p.weight;
  collecting = q.collecting ∙ p.collecting;
  acked = q.acked ∙ p.acked;
  collected = q.collected ∙ p.collected;
}

pub still_none : (a : Account) → Still a a
still_none a = record { keeps = keeps_none a; exhausted = refl; posted = refl; known = refl }

pub still_trans : (a b c : Account) → Still a b → Still b c → Still a c
still_trans a b c p q = record {
  keeps = keeps_trans a b c p.keeps q.keeps;
  exhausted = q.exhausted ∙ p.exhausted;
  posted = q.posted ∙ p.posted;
  known = q.known ∙ p.known;
}

pub still_holding : (r : After) (a : Account) → Still a (holding r a)
still_holding (Left y) a = still_none a
still_holding (Duty k) a = record {
  keeps = record { weight = refl; collecting = refl; acked = refl; collected = refl };
  exhausted = refl;
  posted = refl;
  known = refl;
}
still_holding Root a = record {
  keeps = record { weight = refl; collecting = refl; acked = refl; collected = refl };
  exhausted = refl;
  posted = refl;
  known = refl;
}

pub marks_holding : (r : After) (a : Account) → (holding r a).marks ≡ a.marks
marks_holding (Left y) a = refl
marks_holding (Duty k) a = refl
marks_holding Root a = refl

pub still_marked : (a : Account) (m i : ℕ) (k : Mark) → Still a (put_mark a m i k)
still_marked a m i k = record {
  keeps = record { weight = refl; collecting = refl; acked = refl; collected = refl };
  exhausted = refl;
  posted = refl;
  known = refl;
}

-- climbs change duties and Root alone
pub still_climbed : (a b : Account) → b ≡ record a { duties = b.duties; at_root = b.at_root } → Still a b
still_climbed a b e = record {
  keeps = record {
    weight = ap (λ (x : Account). x.weight) e;
    collecting = ap (λ (x : Account). x.collecting) e;
    acked = ap (λ (x : Account). x.acked) e;
    collected = ap (λ (x : Account). x.collected) e;
  };
  exhausted = ap (λ (x : Account). x.exhausted) e;
  posted = ap (λ (x : Account). x.posted) e;
  known = ap (λ (x : Account). x.known) e;
}

pub marks_climbed : (a b : Account) → b ≡ record a { duties = b.duties; at_root = b.at_root } → b.marks ≡ a.marks
marks_climbed a b e = ap (λ (x : Account). x.marks) e

-- a deed that answered r, and the climbs after it
module _ (r : After) (a b c : Account) (did : b ≡ holding r a) (climbed : c ≡ record b { duties = c.duties; at_root = c.at_root }) where
  pub still_after : Still a c
  still_after = still_trans a b c (rw did (still_holding r a)) (still_climbed b c climbed)

  pub marks_after : c.marks ≡ a.marks
  marks_after = marks_climbed b c climbed ∙ ap (λ (x : Account). x.marks) did ∙ marks_holding r a
