-- `upgrade`: the canonical text of the upgraded scenario and a line end.
use Rattle.std.specs.Prelude.{◌++◌, codes}
use Rattle.sim_base.specs.declared.status.Status.TheVariants as status
use Rattle.quiescence.specs.Rounds.{no_rounds}
use Rattle.scenario.specs.Print.{canonical_text}
use Rattle.scenario.specs.ScenarioParts.{ScenarioParts}
use Rattle.scenario.specs.Upgraded.{upgraded}
use Rattle.sim_top.specs.declared.answer.Answer.{Answer}

unfoldable pub upgrade_answer : ScenarioParts → Answer
upgrade_answer s = record { text = canonical_text (upgraded s) ++ codes "\n"; status = status.Done; rounds = no_rounds }
