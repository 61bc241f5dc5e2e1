-- `--version`: one line with the name and the version.
use Rattle.std.specs.Prelude.{codes}
use Rattle.sim_base.specs.declared.status.Status.TheVariants as status
use Rattle.quiescence.specs.Rounds.{no_rounds}
use Rattle.sim_top.specs.declared.answer.Answer.{Answer}

unfoldable pub version_answer : Answer
version_answer = record { text = codes "buffersorrel 0.1.0\n"; status = status.Done; rounds = no_rounds }
