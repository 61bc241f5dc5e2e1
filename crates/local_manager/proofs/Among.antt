-- Who has a letter.
use Rattle.std.proofs.Common.{◌≡◌, Bool, true, false, ◌||◌, cond, nat_eq, nat_lt, List, [], ◌∷◌, ◌++◌, length, map, refl, ap, arith, ◌∙◌}
use Rattle.std.proofs.lemmas.Bool.Decides.{nat_tests}
use Rattle.std.proofs.lemmas.List.Folds.{list_any-append}
use Rattle.std.specs.List.{filter, list_any}
use Rattle.sim_base.specs.declared.ids.ActorId.{ActorId}
use Rattle.actor_trait.specs.InboxOrder.{is_to}
use Rattle.actor_trait.specs.declared.letter.Letter.{Letter}
use Rattle.sim_model.specs.Moment.{in_order_once, is_among}
use Rattle.sim_model.proofs.Among.{among-in_order}

-- whether one has a letter among these
abbrev pub has_some : List Letter → ActorId → Bool
has_some ls id = list_any (λ l. nat_eq l.to.0 id.0) ls

pub some_among : (ls : List Letter) (id : ActorId) → is_among (map (λ l. l.to) ls) id ≡ has_some ls id
some_among [] id = refl
some_among (l ∷ ls) id = ap (λ (b : Bool). nat_eq l.to.0 id.0 || b) (some_among ls id)

pub some_filtered : (ls : List Letter) (id : ActorId) → has_some ls id ≡ nat_lt 0 (length (filter (is_to id) ls))
some_filtered [] id = grind (arith, nat_tests)
some_filtered (l ∷ ls) id = told (nat_eq l.to.0 id.0) (some_filtered ls id)
  where
    told : (b : Bool) → has_some ls id ≡ nat_lt 0 (length (filter (is_to id) ls))
        → (b || has_some ls id) ≡ nat_lt 0 (length (cond b (l ∷ filter (is_to id) ls) (filter (is_to id) ls)))
    told true e = grind (arith, nat_tests)
    told false e = e

-- whom the newborn and the recipients are among
pub among_called : (newborn : List ActorId) (ls : List Letter) (id : ActorId)
    → is_among (in_order_once (newborn ++ map (λ l. l.to) ls)) id ≡ (is_among newborn id || has_some ls id)
among_called newborn ls id =
    among-in_order (newborn ++ map (λ l. l.to) ls) id
    ∙ list_any-append (λ k. nat_eq k.0 id.0) newborn (map (λ l. l.to) ls)
    ∙ ap (λ (b : Bool). is_among newborn id || b) (some_among ls id)

pub none_some : (ls : List Letter) → nat_lt 0 (length ls) ≡ false → ls ≡ []
none_some [] h = refl
none_some (l ∷ ls) h = absurd (grind (arith, nat_tests, h))
