-- What an elder does.
use Rattle.std.specs.Prelude.{ℕ, ◌-◌, min, pos, Bool, nat_eq, if◌then◌else◌, [], ◌∷◌, None, replicate, codes}
use Rattle.actor_trait.specs.Meaning.{Meaning}
use Rattle.actor_trait.specs.Seen.{Seen}
use Rattle.actor_trait.specs.declared.context.Context.{Context}
use Rattle.actor_trait.specs.declared.outcome.Outcome.{Outcome}
use Rattle.actor_trait.specs.declared.outcome.Sample.{Sample}
use Rattle.engine_tests.specs.declared.elder.Elder.{Elder}

abbrev pub heir : Elder → Elder
heir s = record { left = s.left - 1 }

abbrev pub sample : Elder → Sample
sample s = record { probe = 0; value = pos s.left }

-- one at the first event, while any is left
abbrev pub heirs_at : Bool → ℕ → ℕ
heirs_at first n = if first then min n 1 else 0

abbrev pub elder_acts : Elder → Context → Seen → Outcome Elder
elder_acts s c e = record {
  state = s;
  sends = [];
  ticks = [];
  births = replicate (heirs_at e.first s.left) (heir s);
  samples = replicate 1 (sample s);
  retire = nat_eq (heirs_at e.first s.left) 1;
  fault = None;
}

abbrev pub elder_meaning : Meaning Elder
elder_meaning = record { acts = elder_acts; kind = λ _. codes "elder"; probes = λ _. codes "left" ∷ [] }
