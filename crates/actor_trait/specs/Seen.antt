-- An event as contracts see it.
use Rattle.std.specs.Prelude.{Bool, List}
use Rattle.actor_trait.specs.declared.letter.Letter.{Letter}

-- whether it is the first, whether its tick was asked for, and its inbox
pub record Seen : Type 0 where
  pub first : Bool
  pub spontaneous : Bool
  pub inbox : List Letter

-- the event of these three
abbrev pub seen : Bool → Bool → List Letter → Seen
seen first spontaneous inbox = record { first = first; spontaneous = spontaneous; inbox = inbox }
