-- What a fuse does.
use Rattle.std.specs.Prelude.{◌==◌, Bool, false, not, ◌&&◌, ◌||◌, if◌then◌else◌, [], ◌∷◌, Some, None, codes}
use Rattle.actor_trait.specs.FuseFields.{FuseFields}
use Rattle.actor_trait.specs.Meaning.{Meaning}
use Rattle.actor_trait.specs.Seen.{Seen}
use Rattle.actor_trait.specs.declared.context.Context.{Context}
use Rattle.actor_trait.specs.declared.outcome.Outcome.{Outcome}

-- at its first event if its tick is 0, else when the tick that it asked for comes
abbrev pub burns : FuseFields → Seen → Bool
burns s e = (e.first && (s.at == 0)) || e.spontaneous

-- it asks for its tick at its first event, and shows its fault when it burns
abbrev pub fuse_acts : FuseFields → Context → Seen → Outcome FuseFields
fuse_acts s c e = record {
  state = s;
  sends = [];
  ticks = (if e.first && not (s.at == 0) then s.at ∷ [] else []);
  births = [];
  samples = [];
  retire = false;
  fault = (if burns s e then Some s.code else None);
}

abbrev pub fuse_meaning : Meaning FuseFields
fuse_meaning = record { acts = fuse_acts; kind = λ _. codes "fuse"; probes = λ _. [] }
