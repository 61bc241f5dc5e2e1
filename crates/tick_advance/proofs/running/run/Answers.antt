use Rattle.tick_advance.proofs.Ending.{answers_all}
use Rattle.tick_advance.proofs.running.run.Goals as goal

pub returns-clause-run : goal.returns-clause-run
returns-clause-run g c = answers_all g.A.Actor.meaning c.args.setup c.run_kept.result c.run_kept.ensures.run
