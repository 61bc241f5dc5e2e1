-- What the order of an inbox leaves as it is.
use Rattle.std.proofs.Common.{◌≡◌, Bool, List, [], ◌∷◌, ◌++◌, refl, sym, ap, ◌∙◌}
use Rattle.actor_trait.specs.InboxOrder.{Precedence, comes_before, in_order, place, place_all}
use Rattle.actor_trait.specs.declared.letter.Letter.{Letter}
use Rattle.inbox_order.proofs.Letters.{comes_before_ranks}
use Rattle.inbox_order.proofs.Placing.{place_kept, placed_all}

place_append : {X : Type 0} (before : X → X → Bool) (a xs ys : List X) → place_all before (place_all before a xs) ys ≡ place_all before a (xs ++ ys)
place_append before a [] ys = refl
place_append before a (x ∷ xs) ys = place_append before (place before x a) xs ys

-- what stands in order stays so
pub ordered_twice : (p : Precedence) (ls : List Letter) → in_order p (in_order p ls) ≡ in_order p ls
unfolding in_order
ordered_twice p ls = place_kept (comes_before p) [] (in_order p ls) (placed_all (comes_before p) (comes_before_ranks p) [] ls tt)

-- more letters, behind those that stand in order
pub ordered_more : (p : Precedence) (ls more : List Letter) → in_order p (in_order p ls ++ more) ≡ in_order p (ls ++ more)
unfolding in_order
ordered_more p ls more =
    sym (place_append (comes_before p) [] (in_order p ls) more)
    ∙ ap (λ (l : List Letter). place_all (comes_before p) l more) (ordered_twice p ls)
    ∙ place_append (comes_before p) [] ls more
