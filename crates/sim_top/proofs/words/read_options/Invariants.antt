use Rattle.std.proofs.Common.{◌≡◌, ◌+◌, ◌-◌, ◌≤◌, drop, length}
use Rattle.sim_top.specs.Chosen.{nothing_chosen}
use Rattle.sim_top.specs.Words.{options_from}
use Rattle.sim_top.proofs.words.read_options.Given as goal

-- what all words give is what those that are left give after those that were read
abbrev pub invariant-pairs : goal.invariant-pairs
invariant-pairs l = record {
  within : l.at ≤ length l.words;
  so_far : options_from l.options l.first nothing_chosen l.words ≡ options_from l.options (l.at + l.first) l.chosen (drop l.at l.words);
}

abbrev pub decreases-pairs : goal.decreases-pairs
decreases-pairs l = length l.words - l.at
