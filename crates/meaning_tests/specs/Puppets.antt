-- What a puppet does.
use Rattle.std.specs.Prelude.{ℕ, ◌==◌, pos, Bool, false, ◌&&◌, not, if◌then◌else◌, List, [], ◌∷◌, None, map, replicate, codes}
use Rattle.actor_trait.specs.Faults.{code_of}
use Rattle.actor_trait.specs.Meaning.{Meaning}
use Rattle.actor_trait.specs.Seen.{Seen}
use Rattle.actor_trait.specs.declared.context.Context.{Context}
use Rattle.actor_trait.specs.declared.letter.Letter.{Letter}
use Rattle.actor_trait.specs.declared.letter.Parcel.{Parcel}
use Rattle.actor_trait.specs.declared.outcome.Outcome.{Outcome}
use Rattle.actor_trait.specs.declared.outcome.Sample.{Sample}
use Rattle.meaning_tests.specs.declared.puppet.Puppet.{Puppet}

-- one that only listens
abbrev pub listener : Puppet
listener = record { at = 0; sends = 0; says = pos 5; to = record { 0 = 0 }; ticks = 0; next = 0; births = 0; samples = 0; probe = 0; retires = false; fault = 0 }

abbrev pub said : Puppet → Parcel
said p = record { to = p.to; payload = record { code = 7; a = p.says; b = pos 0 } }

abbrev pub heard : Letter → Sample
heard l = record { probe = 0; value = l.payload.a }

abbrev pub taken : Puppet → Sample
taken p = record { probe = p.probe; value = pos 0 }

-- so many, or none
abbrev pub times : Bool → ℕ → ℕ
times happens n = if happens then n else 0

-- at its deed the ticks that it is told, and the tick of its first deed at its first event
abbrev pub puppet_asks : Puppet → Seen → List ℕ
puppet_asks p e = if e.spontaneous then replicate p.ticks p.next else replicate (times (e.first && not (p.at == 0)) 1) p.at

abbrev pub puppet_acts : Puppet → Context → Seen → Outcome Puppet
puppet_acts p c e = record {
  state = p;
  sends = replicate (times e.spontaneous p.sends) (said p);
  ticks = puppet_asks p e;
  births = replicate (times e.spontaneous p.births) listener;
  samples = (if e.spontaneous then replicate p.samples (taken p) else map heard e.inbox);
  retire = e.spontaneous && p.retires;
  fault = (if e.spontaneous then code_of p.fault else None);
}

abbrev pub puppet_meaning : Meaning Puppet
puppet_meaning = record { acts = puppet_acts; kind = λ _. codes "puppet"; probes = λ _. codes "heard" ∷ [] }
