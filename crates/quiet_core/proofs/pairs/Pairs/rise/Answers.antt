use Rattle.std.proofs.Common.{◌≡◌, ◌≤◌, ◌<◌, ◌∙◌, [], length, ap, arith, max, List, ℕ}
use Rattle.quiet_core.specs.Rows.{blend}
use Rattle.quiet_core.proofs.Blends.{all_below, one_more, stays_wide}
use Rattle.quiet_core.proofs.pairs.Pairs.rise.Goals as goal

pub invariant_of-self : goal.invariant_of-self
invariant_of-self c = stays_wide max c.loop-m.self-inside.rows c.self.inside.rows c.other.inside.rows c.loop-m.m c.loop-m.invariant c.self.invariant c.other.invariant

pub loop-m-preserved : goal.loop-m-preserved
loop-m-preserved c =
    let a = c.self.inside.rows in
    let b = c.other.inside.rows in
    let high = c.self.invariant.high in
    let high' = c.other.invariant.high in
    let lt : c.loop-m.m < length a = omega arith in
    let same : length b ≡ length a = omega arith in
    one_more (blend max) c.loop-m.self-inside.rows a b c.loop-m.m _ [] c.loop-m.invariant same lt c.rise_row.ensures

pub returns : goal.returns
returns c =
    let a = c.self.inside.rows in
    let b = c.other.inside.rows in
    let high = c.self.invariant.high in
    let high' = c.other.invariant.high in
    let all : length a ≤ c.loop-m.m = omega arith in
    let same : length b ≡ length a = omega arith in
    c.loop-m.invariant ∙ all_below (blend max) c.loop-m.m a b same all
    ∙ ap (λ (l : List (List ℕ)). blend (blend max) l b) c.self.view_is ∙ ap (λ (l : List (List ℕ)). blend (blend max) c.args.self.now l) c.other.view_is
