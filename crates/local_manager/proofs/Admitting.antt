-- One more actor, and its manager.
use Rattle.std.proofs.Common.{◌≡◌, ℕ, suc, zero, ◌+◌, ◌-◌, ◌<◌, ◌≤◌, List, [], ◌∷◌, ◌++◌, get_or, length, refl, sym, ap, arith, ◌∙◌, length-append}
use Rattle.std.proofs.Common.{length-set, slice_set}
use Rattle.sim_base.specs.declared.ids.ActorId.{ActorId}
use Rattle.local_manager.specs.Merged.{union, at_home, IsSplit}
use Rattle.agenda.specs.Dues.{comes_before}
use Rattle.local_manager.specs.Directories.{AllBelow, AllPlaced, Kept, home_of, id_before}
use Rattle.local_manager.proofs.Keeping.{below_more, below_set}
use Rattle.agenda.specs.declared.due.Due.{Due}

get_append : (homes : List ℕ) (m i : ℕ) → i < length homes → get_or (homes ++ m ∷ []) i 0 ≡ get_or homes i 0
get_append [] m i lt = absurd (omega arith)
get_append (x ∷ homes) m zero lt = refl
get_append (x ∷ homes) m (suc i) lt = get_append homes m i (omega arith)

same_home : {X : Type 0} (f : X → ActorId) (homes : List ℕ) (m k : ℕ) (all : List X) → AllPlaced (λ x. f x) (length homes) all
    → at_home (λ x. home_of (homes ++ m ∷ []) (f x)) k all ≡ at_home (λ x. home_of homes (f x)) k all
same_home f homes m k [] h = refl
same_home f homes m k (x ∷ xs) h = rw (get_append homes m ((f x).0 - 1) h.0, same_home f homes m k xs h.1)

below_push : (n : ℕ) (homes : List ℕ) (m : ℕ) → m < n → AllBelow n homes → AllBelow n (homes ++ m ∷ [])
below_push n [] m lt h = (lt, tt)
below_push n (x ∷ xs) m lt h = (h.0, below_push n xs m lt h.1)

none_split : {X : Type 0} (f g : X → ℕ) (all : List X) (parts : List (List X)) → all ≡ [] → IsSplit f all parts → IsSplit g all parts
none_split f g all parts e s = λ m p is. s m p is ∙ ap (λ l. at_home f m l) e ∙ sym (ap (λ l. at_home g m l) e)

-- one more actor at this manager, where nobody is scheduled and each that asked has a manager already
pub admitted : (homes loads : List ℕ) (agendas : List (List Due)) (lists : List (List ActorId)) (m load : ℕ) → Kept homes loads agendas lists
    → m < length agendas
    → load < length homes + 2 → AllPlaced (λ d. d.actor) (length homes) (union comes_before agendas) → union id_before lists ≡ []
    → Kept (homes ++ m ∷ []) (slice_set loads m load) agendas lists
admitted homes loads agendas lists m load k lt fits dues idle =
    let more : length (homes ++ m ∷ []) ≡ length homes + 1 = length-append homes (m ∷ []) in
    record {
      some = k.some;
      few = k.few;
      lists_each = k.lists_each;
      loads_each = length-set loads m load ∙ k.loads_each;
      places = below_push (length agendas) homes m lt k.places;
      counts = below_set (length (homes ++ m ∷ []) + 1) loads m load (omega (arith, fits, more))
          (below_more (length homes + 1) (length (homes ++ m ∷ []) + 1) loads (omega (arith, more)) k.counts);
      dues = λ j p e. k.dues j p e ∙ sym (same_home (λ (d : Due). d.actor) homes m j (union comes_before agendas) dues);
      ids = none_split (home_of homes) (home_of (homes ++ m ∷ [])) (union id_before lists) lists idle k.ids;
    }

pub placed_more : {X : Type 0} (f : X → ActorId) (n k : ℕ) (xs : List X) → n ≤ k → AllPlaced (λ x. f x) n xs → AllPlaced (λ x. f x) k xs
placed_more f n k [] le h = tt
placed_more f n k (x ∷ xs) le h = (omega (arith, le, h.0), placed_more f n k xs le h.1)
