-- What a refill does.
use Rattle.std.specs.Prelude.{if◌then◌else◌, [], ◌∷◌, None, codes}
use Rattle.actor_trait.specs.Meaning.{Meaning}
use Rattle.actor_trait.specs.Seen.{Seen}
use Rattle.actor_trait.specs.declared.context.Context.{Context}
use Rattle.actor_trait.specs.declared.outcome.Outcome.{Outcome}
use Rattle.soda_model.specs.Letters.{fill_to}
use Rattle.soda_model.specs.RefillFields.{RefillFields}

-- at its first event it fills its machine and retires
abbrev pub refill_acts : RefillFields → Context → Seen → Outcome RefillFields
refill_acts s c e = record {
  state = s;
  sends = (if e.first then fill_to s.machine s.cans ∷ [] else []);
  ticks = [];
  births = [];
  samples = (if e.first then record { probe = 0; value = s.cans } ∷ [] else []);
  retire = e.first;
  fault = None;
}

abbrev pub refill_meaning : Meaning RefillFields
refill_meaning = record { acts = refill_acts; kind = λ _. codes "refill"; probes = λ _. codes "cans" ∷ [] }
