-- Who is among these actors.
use Rattle.std.proofs.Common.{◌≡◌, ◌<◌, Bool, true, false, ◌||◌, nat_eq, List, [], ◌∷◌, refl, ap, ◌∙◌}
use Rattle.std.specs.BTreeSet.{insert_key}
use Rattle.std.specs.List.{fold}
use Rattle.std.specs.Ordering.{MatchOrdering, match_ordering}
use Rattle.std.specs.declared.cmp.Ordering.{Ordering}
use Rattle.std.specs.declared.cmp.Ordering.TheVariants.{Less, Equal, Greater}
use Rattle.std.proofs.lemmas.Cmp.{ranked}
use Rattle.sim_base.specs.declared.ids.ActorId.{ActorId}
use Rattle.sim_model.specs.Moment.{actor_cmp, in_order_once, is_among}

once : (a b r : Bool) → a ≡ b → (b || r) ≡ (a || (b || r))
once true b r e = rw (← e) refl
once false b r e = refl

swapped : (a b r : Bool) → (b || (a || r)) ≡ (a || (b || r))
swapped true true r = refl
swapped true false r = refl
swapped false b r = refl

-- one more at its place
pub among-insert : (ids : List ActorId) (k id : ActorId) → is_among (insert_key actor_cmp ids k) id ≡ (nat_eq k.0 id.0 || is_among ids id)
among-insert [] k id = refl
among-insert (x ∷ xs) k id = placed (actor_cmp k x) (ranked k.0 x.0 (actor_cmp k x) refl) (among-insert xs k id) where
  placed : (o : Ordering) → MatchOrdering o (k.0 < x.0) (k.0 ≡ x.0) (x.0 < k.0)
      → is_among (insert_key actor_cmp xs k) id ≡ (nat_eq k.0 id.0 || is_among xs id)
      → is_among (match_ordering o (k ∷ x ∷ xs) (x ∷ xs) (x ∷ insert_key actor_cmp xs k)) id ≡
      (nat_eq k.0 id.0 || (nat_eq x.0 id.0 || is_among xs id))
  placed Less m later = refl
  placed Equal m later = once (nat_eq k.0 id.0) (nat_eq x.0 id.0) (is_among xs id) (ap (λ n. nat_eq n id.0) m)
  placed Greater m later = ap (λ r. nat_eq x.0 id.0 || r) later ∙ swapped (nat_eq k.0 id.0) (nat_eq x.0 id.0) (is_among xs id)

or_none : (a : Bool) → (a || false) ≡ a
or_none true = refl
or_none false = refl

among-fold : (ids done : List ActorId) (id : ActorId)
    → is_among (fold (λ done id. insert_key actor_cmp done id) done ids) id ≡ (is_among ids id || is_among done id)
among-fold [] done id = refl
among-fold (k ∷ ids) done id =
    among-fold ids (insert_key actor_cmp done k) id ∙ ap (λ r. is_among ids id || r) (among-insert done k id)
    ∙ moved (is_among ids id) (nat_eq k.0 id.0) (is_among done id) where
      moved : (a b r : Bool) → (a || (b || r)) ≡ ((b || a) || r)
      moved true true r = refl
      moved true false r = refl
      moved false b r = moved_false b r where
        moved_false : (b r : Bool) → (b || r) ≡ ((b || false) || r)
        moved_false true r = refl
        moved_false false r = refl

pub among-in_order : (ids : List ActorId) (id : ActorId) → is_among (in_order_once ids) id ≡ is_among ids id
among-in_order ids id = among-fold ids [] id ∙ or_none (is_among ids id)
