-- What a name is.
use Rattle.std.specs.Prelude.{ℕ, ◌==◌, Bool, ◌&&◌, ◌||◌, nat_le, if◌then◌else◌, List, ◌++◌, length, Option, Some, None, codes}
use Rattle.std.specs.List.{list_all}
use Rattle.std.specs.Fmt.{decimal}
use Rattle.sim_base.specs.declared.ids.ActorId.{ActorId}

-- a to z, 0 to 9 and _
abbrev pub is_name_byte : ℕ → Bool
is_name_byte b = (nat_le 97 b && nat_le b 122) || (nat_le 48 b && nat_le b 57) || (b == 95)

abbrev pub is_text_within : ℕ → List ℕ → Bool
is_text_within most bytes = nat_le 1 (length bytes) && nat_le (length bytes) most && list_all is_name_byte bytes

-- what a scenario may call an actor
abbrev pub is_name : List ℕ → Bool
is_name bytes = is_text_within 32 bytes

-- what a model may call a kind or a probe
abbrev pub is_word : List ℕ → Bool
is_word bytes = is_text_within 20 bytes

abbrev pub name_of : List ℕ → Option (List ℕ)
name_of bytes = if is_name bytes then Some bytes else None

-- the name of an actor that is born during a run
abbrev pub born_name : List ℕ → ActorId → List ℕ
born_name kind id = kind ++ codes "-" ++ decimal id.0
