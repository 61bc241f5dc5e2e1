-- What hands keep through the calls of a moment.
use Rattle.std.proofs.Common.{◌≡◌, ℕ, ◌+◌, ◌-◌, List, [], ◌∷◌, length, replicate, refl, sym, ap, ◌∙◌, subst, arith}
use Rattle.std.specs.List.{All}
use Rattle.std.proofs.lemmas.List.Elements.{All-head, All-tail, All-same, All-replicate}
use Rattle.std.proofs.lemmas.List.{length-replicate}
use Rattle.quiet_core.specs.Account.{Shape, Mark, fresh, Account}
use Rattle.quiet_core.specs.Step.{put_mark}
use Rattle.quiet_core.proofs.Blank.{met_none}
use Rattle.quiescence.specs.declared.answers.After.{After}
use Rattle.quiescence.specs.declared.answers.After.TheVariants.{Left, Duty, Root}
use Rattle.quiescence.specs.declared.answers.Claim.TheVariants.{Claimed}
use Rattle.quiescence.specs.Rule.{RoundId, Holding}
use Rattle.quiescence.specs.Answers.{IsClaim, IsPost, holding}
use Rattle.quiescence.specs.Joint.{Regrouped, joint, helper, new_hand}
use Rattle.round_cost.specs.Hands.{Alike, CanAct, One}

pub alike_then : (a b c : Account) → Alike a b → Alike b c → Alike a c
alike_then a b c x y = record { weight = y.weight ∙ x.weight; collecting = y.collecting ∙ x.collecting; exhausted = y.exhausted ∙ x.exhausted }

pub alike_by : (a b c : Account) → c ≡ b → Alike a b → Alike a c
alike_by a b c e x = subst (λ (z : Account). Alike a z) (sym e) x

pub alike_put : (a b : Account) (m i : ℕ) (k : Mark) → b ≡ put_mark a m i k → Alike a b
alike_put a b m i k e = alike_by a (put_mark a m i k) b e record { weight = refl; collecting = refl; exhausted = refl }

pub alike_post : (m i to n : ℕ) (a b : Account) → IsPost m i to n a b → Alike a b
alike_post m i to n a b p = alike_by a _ b p.2 record { weight = refl; collecting = refl; exhausted = refl }

pub alike_held : (r : After) (a b c : Account) → c ≡ holding r b → Alike a b → Alike a c
alike_held (Left y) a b c e x = alike_by a _ c e record { weight = x.weight; collecting = x.collecting; exhausted = x.exhausted }
alike_held (Duty k) a b c e x = alike_by a _ c e record { weight = x.weight; collecting = x.collecting; exhausted = x.exhausted }
alike_held Root a b c e x = alike_by a _ c e record { weight = x.weight; collecting = x.collecting; exhausted = x.exhausted }

pub claimed_alike : (t : Shape) (m i : ℕ) (a a' : Account) → IsClaim t m a (Claimed i) a' → Alike a a'
claimed_alike t m i a a' p = alike_put a a' m i fresh p.2

-- of lists of hands
pub joint_weight : (r : RoundId) (hs : List Holding) → All (One r) hs → (joint hs).weight ≡ length hs
joint_weight r [] w = refl
joint_weight r (h ∷ []) w = (All-head (One r) h [] w).weight
joint_weight r (h ∷ g ∷ hs) w = let l = joint_weight r (g ∷ hs) (All-tail (One r) h (g ∷ hs) w) in let o = (All-head (One r) h (g ∷ hs) w).weight in omega arith

can_act : (r : RoundId) → CanAct r (new_hand r)
can_act r = record { one = record { of = refl; weight = refl }; claims = refl; met_none = met_none r.shape }

pub all_can_act : (r : RoundId) (hs : List Holding) (n : ℕ) → hs ≡ replicate n (new_hand r) → All (CanAct r) hs
all_can_act r hs n e = All-same (CanAct r) hs (replicate n (new_hand r)) e (All-replicate (CanAct r) n (new_hand r) (can_act r))

pub regrouped_length : (r : RoundId) (a : Account) (hs : List Holding) → Regrouped r a hs → length hs ≡ 1 + (r.shape.hands - 1)
regrouped_length r a hs d = ap length d.hands ∙ (let n = length-replicate (r.shape.hands - 1) (helper r d.known) in omega arith)
