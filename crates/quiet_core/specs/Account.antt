-- The shape of a round, and what a hand has done in it.
use Rattle.std.specs.Prelude.{ℕ, Bool, false, List, [], length, slice_index, get_or, replicate, map}
use Rattle.quiet_core.specs.Rows.{at_pair}

-- How many actors are scheduled at each manager, the parent of each node but the root, and how many hands there are. Managers are the first nodes, and the root is the last.
pub record Shape : Type 0 where
  pub sched : List ℕ
  pub parents : List ℕ
  pub hands : ℕ

-- the managers, how many actors are scheduled at one, the root, and the parent of a node
abbrev pub managers : Shape → ℕ
managers t = length t.sched

abbrev pub scheduled : Shape → ℕ → ℕ
scheduled t m = slice_index t.sched m

abbrev pub root : Shape → ℕ
root t = length t.parents

abbrev pub parent : Shape → ℕ → ℕ
parent t c = slice_index t.parents c

-- What became of a scheduled actor at a hand: nothing; claimed, with nothing announced; claimed, with so many letters announced and not posted; reported; entered by two hands that joined, which the balance rules out
pub data Mark : Type 0 where
  free : Mark
  fresh : Mark
  told : ℕ → Mark
  reported : Mark
  twice : Mark

-- what a hand has done
pub record Account : Type 0 where
  -- its part of the round's weight, which is the number of hands
  pub weight : ℕ
  -- whether it claims no more
  pub collecting : Bool
  -- by manager, whether it found every actor claimed
  pub exhausted : List Bool
  -- by manager, and by the place among those scheduled there, what became of the scheduled actors
  pub marks : List (List Mark)
  -- by the manager of the senders and that of the recipients, how many letters it posted, knows to be posted, and acknowledged
  pub posted : List (List ℕ)
  pub known : List (List ℕ)
  pub acked : List (List ℕ)
  -- by manager, how often it became the collector of the letters to its actors: 0 or 1
  pub collected : List ℕ
  -- by node, whether it holds a duty there; and whether it holds Root
  pub duties : List Bool
  pub at_root : Bool

-- the most managers and the most nodes of a round. The tables of every account are as wide
unfoldable pub most_managers : ℕ
most_managers = 16

unfoldable pub most_nodes : ℕ
most_nodes = 31

-- no letters for any pair
abbrev pub no_pairs : List (List ℕ)
no_pairs = replicate most_managers (replicate most_managers 0)

-- the account of a hand that has done nothing, without weight
abbrev pub blank : Shape → Account
blank t = record {
  weight = 0;
  collecting = false;
  exhausted = replicate most_managers false;
  marks = map (λ n. replicate n free) t.sched;
  posted = no_pairs;
  known = no_pairs;
  acked = no_pairs;
  collected = replicate most_managers 0;
  duties = replicate most_nodes false;
  at_root = false;
}

-- a round in which nobody is scheduled, and an account of it
abbrev pub no_actors : Shape
no_actors = record { sched = []; parents = []; hands = 0 }

abbrev pub nobody : Account
nobody = blank no_actors

-- the account of a hand
abbrev pub account : List Account → ℕ → Account
account xs h = get_or xs h nobody

-- what an account says of an actor, a manager, a pair or a node
abbrev pub mark : Account → ℕ → ℕ → Mark
mark a m i = get_or (get_or a.marks m []) i free

abbrev pub has_met : Account → ℕ → Bool
has_met a m = get_or a.exhausted m false

abbrev pub posts : Account → ℕ → ℕ → ℕ
posts a m n = at_pair a.posted m n

abbrev pub knows : Account → ℕ → ℕ → ℕ
knows a m n = at_pair a.known m n

abbrev pub acks : Account → ℕ → ℕ → ℕ
acks a m n = at_pair a.acked m n

abbrev pub collects : Account → ℕ → ℕ
collects a n = get_or a.collected n 0

abbrev pub has_duty : Account → ℕ → Bool
has_duty a c = get_or a.duties c false

-- 1 where the actor was claimed, is open, is open with nothing announced; the letters that are announced and not posted
abbrev pub entered : Mark → ℕ
entered free = 0
entered fresh = 1
entered (told k) = 1
entered reported = 1
entered twice = 2

abbrev pub opened : Mark → ℕ
opened free = 0
opened fresh = 1
opened (told k) = 1
opened reported = 0
opened twice = 0

abbrev pub plain : Mark → ℕ
plain free = 0
plain fresh = 1
plain (told k) = 0
plain reported = 0
plain twice = 0

abbrev pub owing : Mark → ℕ
owing free = 0
owing fresh = 0
owing (told k) = k
owing reported = 0
owing twice = 0

abbrev pub done : Mark → ℕ
done free = 0
done fresh = 0
done (told k) = 0
done reported = 1
done twice = 2
