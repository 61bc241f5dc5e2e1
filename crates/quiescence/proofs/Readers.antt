-- What the readers of an account say after each call.
use Rattle.std.proofs.Common.{◌≡◌, ◌≢◌, ℕ, ◌+◌, ◌-◌, true, false, refl, ap, ◌∙◌, subst}
use Rattle.quiet_core.specs.Account.{Shape, told, fresh, Account, mark, has_met, posts, acks, owing}
use Rattle.quiet_core.specs.Step.{put_mark}
use Rattle.quiet_core.proofs.Untouched.{mark_here, mark_apart}
use Rattle.quiet_core.proofs.Sums.{pair_here, pair_apart, put_else}
use Rattle.quiescence.specs.declared.answers.After.{After}
use Rattle.quiescence.specs.declared.answers.After.TheVariants.{Left, Duty, Root}
use Rattle.quiescence.specs.declared.answers.Claim.{Claim}
use Rattle.quiescence.specs.declared.answers.Claim.TheVariants.{Claimed, Exhausted}
use Rattle.quiescence.specs.Answers.{IsClaim, IsPost, acked_more, holding}

-- after a claim
pub claimed_fresh : (t : Shape) (m i k : ℕ) (a a' : Account) → IsClaim t m a (Claimed i) a' → i ≡ k → mark a' m k ≡ fresh
claimed_fresh t m i k a a' p e = subst (λ (j : ℕ). mark a' m j ≡ fresh) e (ap (λ (b : Account). mark b m i) p.2 ∙ mark_here a m i fresh)

pub claimed_apart : (t : Shape) (m i n k : ℕ) (a a' : Account) → IsClaim t m a (Claimed i) a' → n ≢ m → mark a' n k ≡ mark a n k
claimed_apart t m i n k a a' p ne = ap (λ (b : Account). mark b n k) p.2 ∙ mark_apart a m n i k fresh ne

-- where a manager was found exhausted, the others are as before
pub other_met : (t : Shape) (m k : ℕ) (a a' : Account) (c : Claim) → IsClaim t m a c a' → ((i : ℕ) → c ≡ Claimed i → ⊥) → k ≢ m → has_met a' k ≡ has_met a k
other_met t m k a a' (Claimed i) p f ne = absurd (f i refl)
other_met t m k a a' (Exhausted x) p f ne = ap (λ (b : Account). has_met b k) p.1 ∙ put_else false a.exhausted m k true ne

-- after a raise
pub raised_told : (m i n : ℕ) (a a' : Account) → a' ≡ put_mark a m i (told n) → mark a' m i ≡ told n
raised_told m i n a a' e = ap (λ (b : Account). mark b m i) e ∙ mark_here a m i (told n)

-- after a post
pub mark_posted : (m i to n : ℕ) (a a' : Account) → IsPost m i to n a a' → mark a' m i ≡ told (owing (mark a m i) - n)
mark_posted m i to n a a' p = ap (λ (b : Account). mark b m i) p.2 ∙ mark_here a m i (told (owing (mark a m i) - n))

pub posted_sent : (m i to n : ℕ) (a a' : Account) → IsPost m i to n a a' → posts a' m to ≡ posts a m to + n
posted_sent m i to n a a' p = ap (λ (b : Account). posts b m to) p.2 ∙ pair_here a.posted m to (posts a m to + n)

-- after letters were acknowledged, those of other senders
held_acks : (r : After) (m n k i : ℕ) (a : Account) → i ≢ m → acks (holding r (acked_more m n k a)) i n ≡ acks a i n
held_acks (Left y) m n k i a ne = pair_apart a.acked m n i n (acks a m n + k) ne
held_acks (Duty d) m n k i a ne = pair_apart a.acked m n i n (acks a m n + k) ne
held_acks Root m n k i a ne = pair_apart a.acked m n i n (acks a m n + k) ne

pub acked_apart : (r : After) (m n k i : ℕ) (a a' : Account) → a' ≡ holding r (acked_more m n k a) → i ≢ m → acks a' i n ≡ acks a i n
acked_apart r m n k i a a' e ne = ap (λ (b : Account). acks b i n) e ∙ held_acks r m n k i a ne
