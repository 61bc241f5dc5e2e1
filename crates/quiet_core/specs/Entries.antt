-- How the accounts of all hands are kept: a ledger for each hand, and one table of the scheduled actors.
use Rattle.std.specs.Prelude.{◌≡◌, ◌≢◌, ℕ, suc, ◌-◌, ◌<◌, ◌≤◌, cond, eqb, ltb, List, [], ◌∷◌, map, replicate, length}
use Rattle.quiet_core.specs.declared.deed.Deed.{Deed}
use Rattle.quiet_core.specs.declared.deed.Deed.TheVariants as deed
use Rattle.quiet_core.specs.declared.entry.Entry.{Entry}
use Rattle.quiet_core.specs.declared.entry.Entry.TheVariants as entry
use Rattle.quiet_core.specs.Account.{Shape, managers, scheduled, Mark, free, fresh, told, reported, Account, account, mark, owing}
use Rattle.quiet_core.specs.Step.{put_mark}

-- what an entry is to a hand
abbrev pub mark_of : ℕ → Entry → Mark
mark_of h entry.Free = free
mark_of h (entry.Fresh g) = cond (eqb g h) fresh free
mark_of h (entry.Told g k) = cond (eqb g h) (told k) free
mark_of h (entry.Reported g) = cond (eqb g h) reported free

-- an entry after what was of the hand h has passed to g
abbrev pub passed : ℕ → ℕ → Entry → Entry
passed h g entry.Free = entry.Free
passed h g (entry.Fresh k) = entry.Fresh (cond (eqb k h) g k)
passed h g (entry.Told k n) = entry.Told (cond (eqb k h) g k) n
passed h g (entry.Reported k) = entry.Reported (cond (eqb k h) g k)

abbrev pub marks_of : ℕ → List (List Entry) → List (List Mark)
marks_of h table = map (λ row. map (mark_of h) row) table

-- the account of a hand, by its ledger and the table
abbrev pub whole : ℕ → Account → List (List Entry) → Account
whole h ledger table = record ledger { marks = marks_of h table }

-- the accounts of the hands from k on
abbrev pub all_from : ℕ → List Account → List (List Entry) → List Account
all_from k [] table = []
all_from k (l ∷ ls) table = whole k l table ∷ all_from (suc k) ls table

-- the table of a round in which nobody has claimed anything
abbrev pub free_table : List ℕ → List (List Entry)
free_table sched = map (λ n. replicate n entry.Free) sched

-- what contracts see of the accounts: how many actors each manager has, and the account of each hand
pub record Book : Type 0 where
  pub sched : List ℕ
  pub accounts : List Account

-- the marks of an account after a deed that found x
abbrev pub marked : Shape → Deed → ℕ → Account → Account
marked t (deed.Claim m) x a = cond (ltb x (scheduled t m)) (put_mark a m x fresh) a
marked t (deed.Raise m i n) x a = put_mark a m i (told n)
marked t (deed.Post m i to n) x a = put_mark a m i (told (owing (mark a m i) - n))
marked t (deed.Done m i) x a = put_mark a m i reported
marked t (deed.Collect n) x a = a
marked t (deed.Look m n) x a = a
marked t (deed.Ack m n k) x a = a
marked t (deed.Climb c) x a = a

-- the actor i of m is scheduled, and no hand but h has it
pub record Alone (t : Shape) (xs : List Account) (h m i : ℕ) : Type 0 where
  pub manager : m < managers t
  pub inside : i < scheduled t m
  pub others : (g : ℕ) → g < length xs → g ≢ h → mark (account xs g) m i ≡ free

-- the actor that a deed enters is no other hand's
abbrev pub Enters : Shape → Deed → ℕ → List Account → ℕ → Type 0
Enters t (deed.Claim m) x xs h = (m < managers t) × (x < scheduled t m → Alone t xs h m x)
Enters t (deed.Raise m i n) x xs h = Alone t xs h m i
Enters t (deed.Post m i to n) x xs h = Alone t xs h m i × (n ≤ owing (mark (account xs h) m i))
Enters t (deed.Done m i) x xs h = Alone t xs h m i
Enters t (deed.Collect n) x xs h = Unit {0}
Enters t (deed.Look m n) x xs h = Unit {0}
Enters t (deed.Ack m n k) x xs h = Unit {0}
Enters t (deed.Climb c) x xs h = Unit {0}
