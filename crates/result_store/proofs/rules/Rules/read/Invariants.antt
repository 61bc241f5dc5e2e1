use Rattle.std.proofs.Common.{◌≡◌, ◌+◌, drop}
use Rattle.result_store.specs.Rules.{rules_from, rules_of}
use Rattle.result_store.proofs.Reading.{after}
use Rattle.result_store.proofs.rules.Rules.read.Given as goal

abbrev pub invariant-loop-text : goal.invariant-loop-text
invariant-loop-text l = record {
  number : l.number ≡ l.text-index + 1;
  so_far : rules_of l.texts ≡ after l.rules.items (rules_from l.number (drop l.text-index l.texts));
}
