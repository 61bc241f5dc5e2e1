-- Many hands as one, and one as many.
use Rattle.std.specs.Prelude.{◌≡◌, ℕ, ◌-◌, ◌<◌, ◌≤◌, Bool, true, List, [], ◌∷◌, replicate}
use Rattle.std.specs.List.{All}
use Rattle.quiet_core.specs.Rows.{at_pair}
use Rattle.quiet_core.specs.Account.{Shape, managers, Account, blank, nobody, posts, knows}
use Rattle.quiet_core.specs.Step.{united}
use Rattle.quiescence.specs.Rule.{RoundId, Holding}

-- a hand of weight 1 that has done nothing
abbrev pub new_hand : RoundId → Holding
new_hand r = record { round = r; account = record (blank r.shape) { weight = 1 } }

-- all hands as one account
abbrev pub joint : List Holding → Account
joint [] = nobody
joint (h ∷ []) = h.account
joint (h ∷ g ∷ hs) = united (joint (g ∷ hs)) h.account

-- an account that takes in those of the hands, the last one first
abbrev pub pooled : Account → List Holding → Account
pooled a [] = a
pooled a (h ∷ hs) = united (pooled a hs) h.account

-- all hands are of this round
abbrev pub AllOf : RoundId → List Holding → Type 0
AllOf r hs = All (λ h. h.round ≡ r) hs

-- a hand of weight 1 that keeps what a has done, and knows k
abbrev pub keeper : RoundId → Account → List (List ℕ) → Bool → Holding
keeper r a k collecting = record { round = r; account = record a { weight = 1; known = k; collecting = collecting } }

-- a hand of weight 1 that has done nothing, knows k, and collects
abbrev pub helper : RoundId → List (List ℕ) → Holding
helper r k = record { round = r; account = record (blank r.shape) { weight = 1; known = k; collecting = true } }

-- the account a is dealt to hands of weight 1: the first keeps what a has done, and all know at least what a has posted. Two or more collect from then on; one collects where a does
pub record Regrouped (r : RoundId) (a : Account) (hs : List Holding) : Type 0 where
  pub known : List (List ℕ)
  pub collecting : Bool
  pub knows_all : (m n : ℕ) → m < managers r.shape → n < managers r.shape → posts a m n ≤ at_pair known m n
  pub all_collect : 2 ≤ r.shape.hands → collecting ≡ true
  pub alone : r.shape.hands ≡ 1 → collecting ≡ a.collecting
  pub hands : hs ≡ keeper r a known collecting ∷ replicate (r.shape.hands - 1) (helper r known)

-- the hand h is g but for what it knows, which is no less
pub record KnowsMore (g h : Holding) : Type 0 where
  pub same : h ≡ record g { account = record g.account { known = h.account.known } }
  pub more : (j k : ℕ) → knows g.account j k ≤ knows h.account j k

-- from g to h the pairs from the manager m to those below n were looked at
pub record LookedFrom (g h : Holding) (m n : ℕ) : Type 0 where
  pub knows_more : KnowsMore g h
  pub row : (k : ℕ) → k < n → posts g.account m k ≤ knows h.account m k

-- from g to h the pairs from the managers below m were looked at
pub record LookedAll (t : Shape) (g h : Holding) (m : ℕ) : Type 0 where
  pub knows_more : KnowsMore g h
  pub rows : (j k : ℕ) → j < m → k < managers t → posts g.account j k ≤ knows h.account j k
