-- The world after a moment, from its parts.
use Rattle.std.proofs.Common.{◌≡◌, ℕ, ◌+◌, ◌-◌, ◌^◌, ◌<◌, ◌≤◌, min, Bool, true, false, cond, List, [], ◌∷◌, ◌++◌, length, map, Option, refl, ap}
use Rattle.std.specs.List.{All, AllPairs, filter, flat_map, fold}
use Rattle.std.proofs.lemmas.List.Elements.{All-map}
use Rattle.std.proofs.lemmas.List.Folds.{flat_map-map, fold-map}
use Rattle.sim_base.specs.declared.ids.ActorId.{ActorId}
use Rattle.actor_trait.specs.Meaning.{Meaning}
use Rattle.actor_trait.specs.declared.letter.Letter.{Letter}
use Rattle.sim_model.specs.Births.{births_of_moment, member_born, without_births}
use Rattle.sim_model.specs.Moment.{agenda_after, ask_of, close, close_with, dead_among, is_alive, letters_of, next_id, put_state, retired}
use Rattle.sim_model.specs.Moment.{sends_of, states_after}
use Rattle.agenda.specs.declared.due.Due.{Due}
use Rattle.sim_model.specs.declared.births.Newborn.{Newborn}
use Rattle.sim_model.specs.declared.cast.Member.{Member}
use Rattle.sim_model.specs.declared.report.Report.{Report}
use Rattle.sim_model.specs.declared.world.WorldState.{WorldState}
use Rattle.sim_model.proofs.Ascending.{pairs_map}

pub closed : {A : Type 0} (m : Meaning A) (w : WorldState A) (rs : List (Report A)) (born : List (Newborn A))
    (states : List (Option A)) (agenda : List Due) (letters : List Letter) (ids none : List ActorId) (cast : List Member) (dead : ℕ)
    → states ≡ states_after w.states rs born → agenda ≡ agenda_after w.agenda rs → letters ≡ filter (λ l. is_alive states l.to) (letters_of rs born)
    → ids ≡ map (λ b. b.id) born → none ≡ [] → cast ≡ w.cast ++ map (member_born m) born
    → dead ≡ min (w.dead_letters + dead_among states (letters_of rs born)) (2 ^ 64 - 1)
    → record w { states = states; agenda = agenda; letters = letters; newborn = ids; scheduled = none; cast = cast; dead_letters = dead } ≡ close_with m w rs born
closed m w rs born states agenda letters ids none cast dead after due sent named empty known counted = rw
    (sent, counted, after, due, named, empty, known) refl

retired_without : {A : Type 0} (rs : List (Report A)) → retired (map without_births rs) ≡ retired rs
retired_without [] = refl
retired_without {A} (r ∷ rs) = told r.outcome.retire (retired_without rs) where
  told : (b : Bool) → retired (map without_births rs) ≡ retired rs
      → map {A = Report A} (λ r. r.id) (cond b (without_births r ∷ filter (λ r. r.outcome.retire) (map without_births rs))
      (filter (λ r. r.outcome.retire) (map without_births rs)))
      ≡ map (λ r. r.id) (cond b (r ∷ filter (λ r. r.outcome.retire) rs) (filter (λ r. r.outcome.retire) rs))
  told true e = ap (λ ids. r.id ∷ ids) e
  told false e = e

-- the close of a moment reads no births of its reports
pub closed_without : {A : Type 0} (m : Meaning A) (w : WorldState A) (rs : List (Report A)) (born : List (Newborn A))
    → close_with m w (map without_births rs) born ≡ close_with m w rs born
closed_without {A} m w rs born =
    let put : fold put_state w.states (map without_births rs) ≡ fold put_state w.states rs = fold-map put_state without_births w.states rs in
    let asked : fold ask_of w.agenda (map without_births rs) ≡ fold ask_of w.agenda rs = fold-map ask_of without_births w.agenda rs in
    let gone : retired (map without_births rs) ≡ retired rs = retired_without rs in
    let sent : flat_map sends_of (map without_births rs) ≡ flat_map sends_of rs = flat_map-map sends_of without_births rs in
    rw (put, asked, gone, sent) refl

-- the world after a moment, where its births were taken out of its reports
pub closed_kept : {A : Type 0} (m : Meaning A) (w : WorldState A) (rs kept : List (Report A)) (born : List (Newborn A)) (next : ℕ)
    → kept ≡ map without_births rs → born ≡ births_of_moment m next rs → next ≡ next_id w → close_with m w kept born ≡ close m w rs
closed_kept m w rs kept born next emptied are first = rw (emptied, are, first) (closed_without m w rs (births_of_moment m (next_id w) rs))

-- nobody sends more once the births are taken out
pub sends_kept : {A : Type 0} (rs kept : List (Report A)) → kept ≡ map without_births rs
    → All (λ r. length r.outcome.sends ≤ 1024) rs → All (λ r. length r.outcome.sends ≤ 1024) kept
sends_kept rs kept emptied few = rw emptied (All-map (λ r. length r.outcome.sends ≤ 1024) without_births rs few)

-- they ascend as before
pub ascend_kept : {A : Type 0} (rs kept : List (Report A)) → kept ≡ map without_births rs → AllPairs (λ r q. r.id.0 < q.id.0) rs
    → AllPairs (λ r q. r.id.0 < q.id.0) kept
ascend_kept rs kept emptied up = rw emptied (pairs_map (λ r q. r.id.0 < q.id.0) without_births rs up)
