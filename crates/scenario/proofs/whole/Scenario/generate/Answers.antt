use Rattle.scenario.proofs.GeneratedFacts.{generated-ok}
use Rattle.scenario.proofs.whole.Scenario.generate.Goals as goal

pub invariant_of-result : goal.invariant_of-result
invariant_of-result c = rw (c.from.ensures, c.in_ok-actors.ensures, c.new.ensures) (generated-ok c.args.n c.requires.some c.requires.most).setup

pub invariant_of-result-2 : goal.invariant_of-result-2
invariant_of-result-2 c = rw (c.from.ensures, c.in_ok-actors.ensures, c.new.ensures, c.in_ok-rules.ensures, c.in_ok-texts.ensures) (generated-ok c.args.n c.requires.some c.requires.most)
