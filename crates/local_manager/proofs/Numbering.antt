-- The newborn of a moment have the next numbers.
use Rattle.std.proofs.Common.{◌≡◌, ℕ, suc, zero, ◌+◌, ◌<◌, List, [], ◌∷◌, ◌++◌, length, get_or, map, ◌≤◌, refl, sym, ap, arith, ◌∙◌, subst}
use Rattle.std.proofs.lemmas.List.{length-map, map-append}
use Rattle.sim_base.specs.declared.ids.ActorId.{ActorId}
use Rattle.actor_trait.specs.Meaning.{Meaning}
use Rattle.sim_model.specs.Births.{birth_letter, births_from, births_of_moment}
use Rattle.sim_model.specs.Whole.{Numbered}
use Rattle.sim_model.specs.declared.births.Newborn.{Newborn}
use Rattle.sim_model.specs.declared.report.Report.{Report}
use Rattle.std.specs.List.{All, AllPairs}
use Rattle.std.proofs.lemmas.List.Elements.{All-append, All-cons, All-head, All-nil, All-tail, All-weaker}
use Rattle.actor_trait.specs.declared.letter.Letter.{Letter}
use Rattle.sim_model.proofs.Ascending.{pairs_append, pairs_head, pairs_map, pairs_nil, pairs_tail}
use Rattle.sim_model.proofs.Numbers.{births_from-length}

numbered_append : (xs ys : List ActorId) (n k : ℕ) → Numbered n xs → k ≡ n + length xs → Numbered k ys → Numbered n (xs ++ ys)
numbered_append [] ys n k h e g = let same : k ≡ n = omega (arith, e) in subst (λ k. Numbered k ys) same g
numbered_append (x ∷ xs) ys n k h e g = (h.0, numbered_append xs ys (n + 1) k h.1 (omega (arith, e)) g)

born_numbered : {A : Type 0} (m : Meaning A) (creator : ActorId) (index id : ℕ) (states : List A)
    → Numbered id (map (λ b. b.id) (births_from m creator index id states))
born_numbered m creator index id [] = tt
born_numbered m creator index id (s ∷ ss) = (refl, born_numbered m creator (index + 1) (id + 1) ss)

pub births_numbered : {A : Type 0} (m : Meaning A) (rs : List (Report A)) (next : ℕ) → Numbered next (map (λ b. b.id) (births_of_moment m next rs))
births_numbered m [] next = tt
births_numbered {A} m (r ∷ rs) next =
    let first : List (Newborn A) = births_from m r.id 0 next r.outcome.births in
    let rest : List (Newborn A) = births_of_moment m (next + length r.outcome.births) rs in
    let count : length (map {A = Newborn A} (λ b. b.id) first) ≡ length r.outcome.births = length-map {A = Newborn A} first (λ b. b.id)
    ∙ births_from-length m r.id 0 next r.outcome.births in
    rw (map-append {A = Newborn A} (λ b. b.id) first rest)
    (numbered_append (map {A = Newborn A} (λ b. b.id) first) (map {A = Newborn A} (λ b. b.id) rest) next (next + length r.outcome.births)
    (born_numbered m r.id 0 next r.outcome.births) (omega (arith, count))
    (births_numbered m rs (next + length r.outcome.births)))

-- the one at a place has the number of that place
pub numbered_at : {A : Type 0} (born : List (Newborn A)) (n i : ℕ) (d : Newborn A) → Numbered n (map (λ b. b.id) born) → i < length born
    → (get_or born i d).id.0 ≡ n + i
numbered_at [] n i d h lt = absurd (omega (arith, lt))
numbered_at (b ∷ born) n zero d h lt = omega (arith, h.0)
numbered_at (b ∷ born) n (suc i) d h lt = omega (arith, numbered_at born (n + 1) i d h.1 (omega (arith, lt)))

-- ---- the creators of a moment's births ascend

from_creator : {A : Type 0} (m : Meaning A) (creator : ActorId) (index id : ℕ) (states : List A)
    → All (λ b. b.creator ≡ creator) (births_from m creator index id states)
from_creator m creator index id [] = All-nil (λ b. b.creator ≡ creator)
from_creator {A} m creator index id (s ∷ ss) = All-cons (λ (b : Newborn A). b.creator ≡ creator) _ (births_from m creator (index + 1) (id + 1) ss) refl
    (from_creator m creator (index + 1) (id + 1) ss)

creators_above : {A : Type 0} (m : Meaning A) (n next : ℕ) (rs : List (Report A)) → All (λ r. n < r.id.0) rs
    → All (λ b. n < b.creator.0) (births_of_moment m next rs)
creators_above m n next [] h = All-nil (λ b. n < b.creator.0)
creators_above {A} m n next (r ∷ rs) h =
    All-append (λ (b : Newborn A). n < b.creator.0) (births_from m r.id 0 next r.outcome.births) (births_of_moment m (next + length r.outcome.births) rs)
    (All-weaker (λ (b : Newborn A). b.creator ≡ r.id) (λ (b : Newborn A). n < b.creator.0)
    (λ b e. subst (λ (a : ActorId). n < a.0) (sym e) (All-head (λ (r : Report A). n < r.id.0) r rs h))
    (births_from m r.id 0 next r.outcome.births) (from_creator m r.id 0 next r.outcome.births))
    (creators_above m n (next + length r.outcome.births) rs (All-tail (λ (r : Report A). n < r.id.0) r rs h))

creators_rise : {A : Type 0} (m : Meaning A) (next : ℕ) (rs : List (Report A)) → AllPairs (λ r q. r.id.0 < q.id.0) rs
    → AllPairs (λ b d. b.creator.0 ≤ d.creator.0) (births_of_moment m next rs)
creators_rise m next [] h = pairs_nil (λ b d. b.creator.0 ≤ d.creator.0)
creators_rise {A} m next (r ∷ rs) h =
    let first : List (Newborn A) = births_from m r.id 0 next r.outcome.births in
    let rest : List (Newborn A) = births_of_moment m (next + length r.outcome.births) rs in
    let mine : All (λ (b : Newborn A). b.creator ≡ r.id) first = from_creator m r.id 0 next r.outcome.births in
    let above : All (λ (b : Newborn A). r.id.0 < b.creator.0) rest =
    creators_above m r.id.0 (next + length r.outcome.births) rs (pairs_head (λ (r q : Report A). r.id.0 < q.id.0) r rs h) in
    pairs_append (λ (b d : Newborn A). b.creator.0 ≤ d.creator.0) first rest
    (λ i j d lt le. omega (arith, ap (λ (a : ActorId). a.0) (mine i d (omega (arith, lt, le))), ap (λ (a : ActorId). a.0) (mine j d le)))
    (creators_rise m (next + length r.outcome.births) rs (pairs_tail (λ (r q : Report A). r.id.0 < q.id.0) r rs h))
    (All-weaker (λ (b : Newborn A). b.creator ≡ r.id) (λ (b : Newborn A). All (λ (d : Newborn A). b.creator.0 ≤ d.creator.0) rest)
    (λ b e. All-weaker (λ (d : Newborn A). r.id.0 < d.creator.0) (λ (d : Newborn A). b.creator.0 ≤ d.creator.0)
    (λ d lt. omega (arith, lt, ap (λ (a : ActorId). a.0) e)) rest above) first mine)

pub told_rise : {A : Type 0} (m : Meaning A) (next : ℕ) (rs : List (Report A)) → AllPairs (λ r q. r.id.0 < q.id.0) rs
    → AllPairs (λ l k. l.to.0 ≤ k.to.0) (map birth_letter (births_of_moment m next rs))
told_rise m next rs h = pairs_map (λ (l k : Letter). l.to.0 ≤ k.to.0) birth_letter (births_of_moment m next rs) (creators_rise m next rs h)
