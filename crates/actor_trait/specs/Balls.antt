-- What a ball player does.
use Rattle.std.specs.Prelude.{◌==◌, ℤ, pos, ◌+ℤ◌, ◌-ℤ◌, int_lt, Bool, false, ◌&&◌, if◌then◌else◌, List, [], ◌∷◌, ◌++◌, None, codes}
use Rattle.std.specs.Int.{w64, saturate_signed}
use Rattle.std.specs.List.{flat_map, fold, list_any}
use Rattle.sim_base.specs.declared.ids.ActorId.{ActorId}
use Rattle.actor_trait.specs.BallFields.{BallFields}
use Rattle.actor_trait.specs.Meaning.{Meaning}
use Rattle.actor_trait.specs.Seen.{Seen}
use Rattle.actor_trait.specs.declared.context.Context.{Context}
use Rattle.actor_trait.specs.declared.letter.Letter.{Letter}
use Rattle.actor_trait.specs.declared.letter.Parcel.{Parcel}
use Rattle.actor_trait.specs.declared.outcome.Outcome.{Outcome}

-- a ball to somebody, with so many hits left
abbrev pub ball_to : ActorId → ℤ → Parcel
ball_to to hits = record { to = to; payload = record { code = 1; a = hits; b = pos 0 } }

-- a letter that is a ball
abbrev pub is_ball : Letter → Bool
is_ball l = l.payload.code == 1

-- a ball that comes is counted, at most to the last of an i64
abbrev pub catch : BallFields → Letter → BallFields
catch s l = if is_ball l then record s { received = saturate_signed w64 (s.received +ℤ pos 1) } else s

-- a ball with hits left when one is taken away
abbrev pub goes_back : Letter → Bool
goes_back l = is_ball l && int_lt (pos 1) l.payload.a

-- it goes back to its sender with one hit less
abbrev pub ball_back : Letter → List Parcel
ball_back l = if goes_back l then ball_to l.from (l.payload.a -ℤ pos 1) ∷ [] else []

-- it asks for its tick at its first event, serves when that comes, and returns what it catches
abbrev pub ball_acts : BallFields → Context → Seen → Outcome BallFields
ball_acts s c e =
    let after = fold catch s e.inbox in
    record {
      state = after;
      sends = (if e.spontaneous then ball_to s.peer s.hits ∷ [] else []) ++ flat_map ball_back e.inbox;
      ticks = (if e.first && int_lt (pos 0) s.hits then s.at ∷ [] else []);
      births = [];
      samples = (if list_any is_ball e.inbox then record { probe = 0; value = after.received } ∷ [] else []);
      retire = false;
      fault = None;
    }

abbrev pub ball_meaning : Meaning BallFields
ball_meaning = record { acts = ball_acts; kind = λ _. codes "ball"; probes = λ _. codes "hits" ∷ [] }
