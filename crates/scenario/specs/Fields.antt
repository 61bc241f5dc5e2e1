-- The fields of an object, and their refusals.
use Rattle.std.specs.Prelude.{ℕ, ℤ, pos, negsuc, List, [], ◌∷◌, length, Option, Some, None, Result, Ok, Err, option_and_then, nat_le, ◌&&◌, ◌||◌, Bool, if◌then◌else◌, bytes_eq, codes}
use Rattle.std.specs.Ordering.{match_ordering, nat_cmp}
use Rattle.std.specs.Cmp.Lexicographic.{slice_cmp}
use Rattle.serde_json.specs.Data.{Data, Items, no_items, item, Members, no_members, member}
use Rattle.serde_json.specs.Find.{get, as_array, as_number, as_integer, as_str, as_object}
use Rattle.scenario.specs.Answers.{◌>>=◌, or_else, place_of, unless}
use Rattle.scenario.specs.Table.{fields_of, is_among}
use Rattle.scenario.specs.declared.fields.Owner.{Owner}
use Rattle.scenario.specs.declared.fields.Owner.TheVariants as owner
use Rattle.scenario.specs.declared.refusal.Place.{Place}
use Rattle.scenario.specs.declared.refusal.Refusal.{Refusal}
use Rattle.scenario.specs.declared.refusal.Refusal.TheVariants.{Missing, WrongType, OutOfRange, UnknownField}

-- ---- numbers

-- a whole number of at most 64 bits
abbrev pub whole : Data → Option ℤ
whole d = option_and_then as_integer (as_number d)

unfoldable pub in_range : Place → ℕ → ℕ → ℤ → Result ℕ Refusal
in_range p low high (pos n) = if nat_le low n && nat_le n high then Ok n else Err (OutOfRange p (pos n))
in_range p low high (negsuc n) = Err (OutOfRange p (negsuc n))

-- the whole number of a field, from low to high
unfoldable pub number_at : ℕ → List ℕ → ℕ → ℕ → Data → Result ℕ Refusal
number_at actor field low high tree = do
  d ← or_else (Missing (place_of actor field)) (get field tree)
  z ← or_else (WrongType (place_of actor field)) (whole d)
  in_range (place_of actor field) low high z

-- the first of two where there is nothing
abbrev pub unless_there : {A : Type 0} → A → A → Option Data → A
unless_there default there None = default
unless_there default there (Some d) = there

-- the same of a field of the whole, which has a default
unfoldable pub number_or : List ℕ → ℕ → ℕ → ℕ → Data → Result ℕ Refusal
number_or field default low high tree = unless_there (Ok default) (number_at 0 field low high tree) (get field tree)

-- ---- texts

-- the text of a field
unfoldable pub text_at : ℕ → List ℕ → Data → Result (List ℕ) Refusal
text_at actor field tree = do
  d ← or_else (Missing (place_of actor field)) (get field tree)
  or_else (WrongType (place_of actor field)) (as_str d)

-- the texts of a list, if all are texts
abbrev pub all_texts : Items → Option (List (List ℕ))
all_texts no_items = Some []
all_texts (item d ds) = option_and_then (λ t. option_and_then (λ ts. Some (t ∷ ts)) (all_texts ds)) (as_str d)

-- the texts of a field that holds a list of them, from so few to so many
unfoldable pub texts_at : ℕ → List ℕ → ℕ → ℕ → Data → Result (List (List ℕ)) Refusal
texts_at actor field few many tree = do
  d ← or_else (Missing (place_of actor field)) (get field tree)
  ds ← or_else (WrongType (place_of actor field)) (as_array d)
  texts ← or_else (WrongType (place_of actor field)) (all_texts ds)
  _number ← unless (nat_le few (length texts) && nat_le (length texts) many) (OutOfRange (place_of actor field) (pos (length texts)))
  Ok texts

-- the same of a field of the whole, which has a default
unfoldable pub texts_or : List ℕ → List (List ℕ) → ℕ → Data → Result (List (List ℕ)) Refusal
texts_or field default many tree = unless_there (Ok default) (texts_at 0 field 0 many tree) (get field tree)

-- ---- fields that are none

unfoldable pub is_field : Owner → List ℕ → Bool
is_field owner.Whole key =
    bytes_eq key (codes "format") || bytes_eq key (codes "seed") || bytes_eq key (codes "last_tick") || bytes_eq key (codes "diasca_limit")
    || bytes_eq key (codes "max_actors") || bytes_eq key (codes "urgent") || bytes_eq key (codes "results") || bytes_eq key (codes "actors")
is_field (owner.Actor kind) key = bytes_eq key (codes "name") || bytes_eq key (codes "kind") || is_among (fields_of kind) key

-- the lesser by bytes
abbrev pub lesser : List ℕ → Option (List ℕ) → List ℕ
lesser k None = k
lesser k (Some l) = match_ordering (slice_cmp nat_cmp k l) k k l

-- the least field that is none of the owner's
abbrev pub least_unknown : Owner → Members → Option (List ℕ)
least_unknown o no_members = None
least_unknown o (member k d ms) = if is_field o k then least_unknown o ms else Some (lesser k (least_unknown o ms))

abbrev pub refuse_field : ℕ → Option (List ℕ) → Result (Unit {0}) Refusal
refuse_field actor None = Ok tt
refuse_field actor (Some k) = Err (UnknownField (place_of actor k))

unfoldable pub no_unknown : Owner → ℕ → Data → Result (Unit {0}) Refusal
no_unknown o actor d = do
  ms ← or_else (WrongType (place_of actor [])) (as_object d)
  refuse_field actor (least_unknown o ms)
