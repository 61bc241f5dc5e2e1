-- Pieces one after the other, each replaced by its equal.
use Rattle.std.proofs.Common.{◌≡◌, ℕ, List, ◌++◌}

pub joined_5 : (a b c d e a' b' c' d' e' : List ℕ) → a ≡ a' → b ≡ b' → c ≡ c' → d ≡ d' → e ≡ e'
    → a ++ b ++ c ++ d ++ e ≡ a' ++ b' ++ c' ++ d' ++ e'
joined_5 a b c d e a' b' c' d' e' p q r s t = cc

pub joined_6 : (a b c d e f a' b' c' d' e' f' : List ℕ) → a ≡ a' → b ≡ b' → c ≡ c' → d ≡ d' → e ≡ e' → f ≡ f'
    → a ++ b ++ c ++ d ++ e ++ f ≡ a' ++ b' ++ c' ++ d' ++ e' ++ f'
joined_6 a b c d e f a' b' c' d' e' f' p q r s t u = cc
