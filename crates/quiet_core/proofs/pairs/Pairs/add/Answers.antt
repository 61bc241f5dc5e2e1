use Rattle.std.proofs.Common.{◌≡◌, ◌≤◌, ◌<◌, ◌∙◌, ◌^◌, [], length, get_or, subst, ap, sym, arith, ◌+◌, List, ℕ}
use Rattle.quiet_core.specs.Rows.{at_pair, blend}
use Rattle.quiet_core.proofs.Blends.{all_below, one_more, read_so_far, stays_wide}
use Rattle.quiet_core.proofs.pairs.Pairs.add.Goals as goal

pub invariant_of-self : goal.invariant_of-self
invariant_of-self c = stays_wide ◌+◌ c.loop-m.self-inside.rows c.self.inside.rows c.other.inside.rows c.loop-m.m c.loop-m.invariant c.self.invariant c.other.invariant

pub loop-m-preserved : goal.loop-m-preserved
loop-m-preserved c =
    let a = c.self.inside.rows in
    let b = c.other.inside.rows in
    let high = c.self.invariant.high in
    let high' = c.other.invariant.high in
    let lt : c.loop-m.m < length a = omega arith in
    let same : length b ≡ length a = omega arith in
    one_more (blend ◌+◌) c.loop-m.self-inside.rows a b c.loop-m.m _ [] c.loop-m.invariant same lt c.add_row.ensures

pub returns : goal.returns
returns c =
    let a = c.self.inside.rows in
    let b = c.other.inside.rows in
    let high = c.self.invariant.high in
    let high' = c.other.invariant.high in
    let all : length a ≤ c.loop-m.m = omega arith in
    let same : length b ≡ length a = omega arith in
    c.loop-m.invariant ∙ all_below (blend ◌+◌) c.loop-m.m a b same all
    ∙ ap (λ (l : List (List ℕ)). blend (blend ◌+◌) l b) c.self.view_is ∙ ap (λ (l : List (List ℕ)). blend (blend ◌+◌) c.args.self.now l) c.other.view_is

pub add_row-requires-clause-fits : goal.add_row-requires-clause-fits
add_row-requires-clause-fits c n l =
    let a = c.self.inside.rows in
    let b = c.other.inside.rows in
    let m = c.loop-m.m in
    let lm : m < 16 = c.loop-m-test.true in
    let same = read_so_far (blend ◌+◌) c.loop-m.self-inside.rows a b m [] c.loop-m.invariant in
    let wide = c.self.invariant.wide m lm in
    let same' = ap length same in
    let ln : n < 16 = omega arith in
    let fits = c.requires m n lm ln in
    let one = subst (λ (l : List (List ℕ)). at_pair l m n + at_pair c.args.other.now m n < 2 ^ 64) (sym c.self.view_is) fits in
    let two = subst (λ (l : List (List ℕ)). at_pair a m n + at_pair l m n < 2 ^ 64) (sym c.other.view_is) one in
    subst (λ (r : List ℕ). get_or r n 0 + at_pair b m n < 2 ^ 64) (sym same) two
