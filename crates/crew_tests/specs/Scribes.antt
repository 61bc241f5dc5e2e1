-- What a scribe does.
use Rattle.std.specs.Prelude.{pos, Bool, false, if◌then◌else◌, [], replicate, codes}
use Rattle.actor_trait.specs.Faults.{code_of}
use Rattle.actor_trait.specs.Meaning.{Meaning}
use Rattle.actor_trait.specs.Seen.{Seen}
use Rattle.actor_trait.specs.declared.context.Context.{Context}
use Rattle.actor_trait.specs.declared.letter.Parcel.{Parcel}
use Rattle.actor_trait.specs.declared.outcome.Outcome.{Outcome}
use Rattle.crew_tests.specs.declared.scribe.Page.{Page}
use Rattle.crew_tests.specs.declared.scribe.Scribe.{Scribe}

abbrev pub page_at : Scribe → Bool → Page
page_at s first = if first then s.first else s.later

abbrev pub written : Page → Parcel
written p = record { to = p.to; payload = record { code = 1; a = pos 0; b = pos 0 } }

-- it writes two letters to actor 5 at its first event
abbrev pub heir : Scribe
heir = record {
  first = record { to = record { 0 = 5 }; letters = 2; births = 0; retires = false; fault = 0 };
  later = record { to = record { 0 = 0 }; letters = 0; births = 0; retires = false; fault = 0 };
}

abbrev pub scribe_acts : Scribe → Context → Seen → Outcome Scribe
scribe_acts s c e =
    let p = page_at s e.first in
    record {
      state = s;
      sends = replicate p.letters (written p);
      ticks = [];
      births = replicate p.births heir;
      samples = [];
      retire = p.retires;
      fault = code_of p.fault;
    }

abbrev pub scribe_meaning : Meaning Scribe
scribe_meaning = record { acts = scribe_acts; kind = λ _. codes "scribe"; probes = λ _. [] }
