use Rattle.std.proofs.Common.{◌≡◌, ℕ, List, Option, Some, None, sym, ◌∙◌}
use Rattle.scenario.proofs.GeneratedFacts.{numbered_read}
use Rattle.scenario.proofs.generating.numbered.Goals as goal

none_some : (bs : List ℕ) → ◌≡◌ {A = Option (List ℕ)} None (Some bs) → ⊥
none_some bs h = absurd (cc)

some_same : (a b : List ℕ) → ◌≡◌ {A = Option (List ℕ)} (Some a) (Some b) → a ≡ b
some_same a b h = cc

pub unreachable-requires : goal.unreachable-requires
unreachable-requires c =
    none_some _ (sym c.in-None.is ∙ numbered_read c.args.letter c.args.g _ _ c.requires.low c.requires.high c.ranges.g.fits c.spelt-end.ensures.text c.read.ensures)

pub returns : goal.returns
returns c =
    some_same _ _ (sym c.in-Some.is ∙ numbered_read c.args.letter c.args.g _ _ c.requires.low c.requires.high c.ranges.g.fits c.spelt-end.ensures.text c.read.ensures)
