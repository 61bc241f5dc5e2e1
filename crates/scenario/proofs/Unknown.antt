-- The keys of an object, one after another: since they ascend, the first that is unknown is the least.
use Rattle.std.proofs.Common.{◌≡◌, ℕ, List, [], ◌∷◌, Option, Some, None, Bool, true, false, String, Global, string_bytes, string_cmp, if◌then◌else◌, refl, ap, ◌∙◌, Less}
use Rattle.std.specs.List.{AllByRecursion}
use Rattle.std.specs.List.Sorted.{IsStrictlySortedBy}
use Rattle.std.specs.Map.{keys_of}
use Rattle.std.specs.Ordering.{match_ordering}
use Rattle.serde_json.specs.View.{members_view}
use Rattle.serde_json.specs.declared.value.Value.{Value}
use Rattle.scenario.specs.Fields.{is_field, least_unknown, lesser}
use Rattle.scenario.specs.declared.fields.Owner.{Owner}

abbrev pub unknown_in : Owner → List (String Global) → Option (List ℕ)
unknown_in o [] = None
unknown_in o (k ∷ ks) = if is_field o (string_bytes k) then unknown_in o ks else Some (string_bytes k)

-- a key that is below all of them is the lesser
below_all : (o : Owner) (first : String Global) (ks : List (String Global)) → AllByRecursion (λ y. string_cmp first y ≡ Less) ks → lesser (string_bytes first) (unknown_in o ks) ≡ string_bytes first
below_all o first [] below = refl
below_all o first (k ∷ ks) below = here (is_field o (string_bytes k)) (below_all o first ks below.1)
  where
    here : (known : Bool) → lesser (string_bytes first) (unknown_in o ks) ≡ string_bytes first → lesser (string_bytes first) (if known then unknown_in o ks else Some (string_bytes k)) ≡ string_bytes first
    here true more = more
    here false more = ap (λ o. match_ordering o (string_bytes first) (string_bytes first) (string_bytes k)) below.0

pub least_unknown-keys : (o : Owner) (es : List (String Global × Value)) → IsStrictlySortedBy string_cmp (keys_of es) → least_unknown o (members_view es) ≡ unknown_in o (keys_of es)
unfolding IsStrictlySortedBy
least_unknown-keys o [] sorted = refl
least_unknown-keys o (e ∷ es) sorted =
    let more = least_unknown-keys o es sorted.1 in
    ap (λ r. if is_field o (string_bytes e.0) then r else Some (lesser (string_bytes e.0) r)) more
    ∙ ap (λ k. if is_field o (string_bytes e.0) then unknown_in o (keys_of es) else Some k) (below_all o e.0 (keys_of es) sorted.0)
