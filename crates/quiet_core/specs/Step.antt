-- The steps of a round: of what a hand does, the word, what becomes of it, the account after it, and the conditions; and the moves of hands.
use Rattle.std.specs.Prelude.{◌≡◌, ℕ, ◌+◌, ◌-◌, ◌*◌, ◌<◌, ◌≤◌, true, false, ◌||◌, cond, eqb, ltb, List, [], ◌∷◌, ◌++◌, get_or, set, max}
use Rattle.quiet_core.specs.Rows.{put, blend, put_pair}
use Rattle.quiet_core.specs.Account.{Shape, managers, scheduled, root, parent, Mark, free, fresh, told, reported, twice, Account, blank, mark, has_met, posts, knows, acks, collects, has_duty, opened, owing}
use Rattle.quiet_core.specs.declared.deed.Deed.{Deed}
use Rattle.quiet_core.specs.declared.deed.Deed.TheVariants as deed

-- the words and the accounts of a round, of any length
pub record State : Type 0 where
  pub words : List ℕ
  pub accounts : List Account

abbrev pub word : State → ℕ → ℕ
word s k = get_or s.words k 0

-- The words: one for each node, then the claims, the collectors, and the issued letters of each pair
abbrev pub claim_at : Shape → ℕ → ℕ
claim_at t m = root t + 1 + m

abbrev pub coll_at : Shape → ℕ → ℕ
coll_at t n = root t + 1 + managers t + n

abbrev pub issued_at : Shape → ℕ → ℕ → ℕ
issued_at t m n = root t + 1 + managers t + managers t + (m * managers t + n)

abbrev pub word_count : Shape → ℕ
word_count t = root t + 1 + managers t + managers t + managers t * managers t

-- what becomes of a word
pub data Change : Type 0 where
  up : ℕ → Change
  down : ℕ → Change
  becomes : ℕ → Change
  stays : Change

abbrev pub changed : Change → ℕ → ℕ
changed (up k) x = x + k
changed (down k) x = x - k
changed (becomes v) x = v
changed stays x = x

-- the word of a deed, and what becomes of it
abbrev pub place : Shape → Deed → ℕ
place t (deed.Claim m) = claim_at t m
place t (deed.Raise m i n) = m
place t (deed.Post m i to n) = issued_at t m to
place t (deed.Done m i) = m
place t (deed.Collect n) = coll_at t n
place t (deed.Look m n) = issued_at t m n
place t (deed.Ack m n k) = m
place t (deed.Climb c) = parent t c

abbrev pub change : Deed → Change
change (deed.Claim m) = up 1
change (deed.Raise m i n) = up n
change (deed.Post m i to n) = up n
change (deed.Done m i) = down 1
change (deed.Collect n) = becomes 1
change (deed.Look m n) = stays
change (deed.Ack m n k) = down k
change (deed.Climb c) = down 1

-- the actor i of m becomes k at a hand
abbrev pub put_mark : Account → ℕ → ℕ → Mark → Account
put_mark a m i k = record a { marks = put [] a.marks m (put free (get_or a.marks m []) i k) }

-- the account, where the word of the node j has become x
abbrev pub reached : Shape → ℕ → ℕ → Account → Account
reached t j x a = cond (eqb x 0) (cond (eqb j (root t)) (record a { at_root = true }) (record a { duties = put false a.duties j true })) a

-- the account after a deed that found x
abbrev pub after : Shape → Deed → ℕ → Account → Account
after t (deed.Claim m) x a = cond (ltb x (scheduled t m)) (put_mark a m x fresh) (record a { exhausted = put false a.exhausted m true })
after t (deed.Raise m i n) x a = put_mark a m i (told n)
after t (deed.Post m i to n) x a = record a {
  marks = put [] a.marks m (put free (get_or a.marks m []) i (told (owing (mark a m i) - n)));
  posted = put_pair a.posted m to (posts a m to + n);
  known = put_pair a.known m to (x + n);
}
after t (deed.Done m i) x a = reached t m (x - 1) (put_mark a m i reported)
after t (deed.Collect n) x a = cond (eqb x 0) (record a { collected = put 0 a.collected n 1 }) a
after t (deed.Look m n) x a = record a { known = put_pair a.known m n x }
after t (deed.Ack m n k) x a = reached t m (x - k) (record a { acked = put_pair a.acked m n (acks a m n + k) })
after t (deed.Climb c) x a = reached t (parent t c) (x - 1) (record a { duties = put false a.duties c false })

-- the conditions of a deed on the account of its hand
abbrev pub May : Shape → Deed → Account → Type 0
May t (deed.Claim m) a = (m < managers t) × (1 ≤ a.weight) × (a.collecting ≡ false) × (has_met a m ≡ false)
May t (deed.Raise m i n) a = (m < managers t) × (1 ≤ a.weight) × (mark a m i ≡ fresh) × (1 ≤ n) × (n ≤ 1024)
May t (deed.Post m i to n) a = (m < managers t) × (to < managers t) × (1 ≤ a.weight) × (opened (mark a m i) ≡ 1) × (1 ≤ n) × (n ≤ owing (mark a m i))
May t (deed.Done m i) a = (m < managers t) × (1 ≤ a.weight) × (opened (mark a m i) ≡ 1) × (owing (mark a m i) ≡ 0)
May t (deed.Collect n) a = (n < managers t) × (1 ≤ a.weight)
May t (deed.Look m n) a = (m < managers t) × (n < managers t) × (1 ≤ a.weight)
May t (deed.Ack m n k) a = (m < managers t) × (n < managers t) × (1 ≤ a.weight) × (collects a n ≡ 1) × (1 ≤ k) × (acks a m n + k ≤ max (knows a m n) (posts a m n))
May t (deed.Climb c) a = (c ≤ root t) × (1 ≤ a.weight) × (has_duty a c ≡ true)

-- the hand h, whose account is a, does d
abbrev pub acted : Shape → ℕ → Account → Deed → State → State
acted t h a d s = record { words = set s.words (place t d) (changed (change d) (word s (place t d))); accounts = set s.accounts h (after t d (word s (place t d)) a) }

-- an actor at two hands that join
abbrev pub meet : Mark → Mark → Mark
meet free l = l
meet k free = k
meet _ _ = twice

-- two accounts as one
abbrev pub united : Account → Account → Account
united a c = record {
  weight = a.weight + c.weight;
  collecting = a.collecting || c.collecting;
  exhausted = blend ◌||◌ a.exhausted c.exhausted;
  marks = blend (blend meet) a.marks c.marks;
  posted = blend (blend ◌+◌) a.posted c.posted;
  known = blend (blend max) a.known c.known;
  acked = blend (blend ◌+◌) a.acked c.acked;
  collected = blend ◌+◌ a.collected c.collected;
  duties = blend ◌||◌ a.duties c.duties;
  at_root = a.at_root || c.at_root;
}

-- the hand h takes in the account of g
abbrev pub joined : Shape → ℕ → Account → ℕ → Account → State → State
joined t h a g c s = record s { accounts = set (set s.accounts h (united a c)) g (blank t) }

-- what is left of an account that is split, and the new one
abbrev pub kept_part : Account → Account
kept_part a = record a { weight = a.weight - 1; collecting = true }

abbrev pub new_part : Shape → Account → Account
new_part t a = record (blank t) { weight = 1; collecting = true; known = a.known }

-- one unit of the weight of h goes to g, and both collect from then on
abbrev pub split : Shape → ℕ → Account → ℕ → State → State
split t h a g s = record s { accounts = set (set s.accounts h (kept_part a)) g (new_part t a) }

-- an empty account is added at the end
abbrev pub grown : Shape → State → State
grown t s = record s { accounts = s.accounts ++ blank t ∷ [] }
