use Rattle.std.proofs.Common.{◌≡◌, ◌+◌, ◌∙◌, ap, sym, drop, arith}
use Rattle.sim_top.specs.Words.{options_from}
use Rattle.sim_top.proofs.Pairs.{options_more}
use Rattle.sim_top.proofs.words.read_options.Goals as goal

pub pairs-preserved : goal.pairs-preserved
pairs-preserved c =
    let there = c.in-Some.ensures.lookup in
    let first = c.args.first in
    let taken = c.args.options in
    let more = options_more taken (c.pairs.at + first) c.pairs.chosen c.args.words.now c.pairs.at c.index-words-at.result c.in-Some.value.now c.in_ok-setting.setting c.in_ok-chosen.chosen
    there.3.0 c.index-words-at.is there.1 (sym (rw c.as_slice.ensures at c.in_ok-setting.ensures)) (sym (rw c.as_slice-in-pairs.ensures at c.in_ok-chosen.ensures)) in
    let next : c.pairs.at + first + 2 ≡ c.pairs.at + 2 + first = omega arith in
    record {
      within = omega (arith, there.3.0);
      so_far = c.pairs.invariant.so_far ∙ more ∙ ap (λ place. options_from taken place c.in_ok-chosen.chosen (drop (c.pairs.at + 2) c.args.words.now)) next;
    }
