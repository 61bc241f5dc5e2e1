use Rattle.quiet_core.specs.declared.deed.Deed.TheVariants.{Climb}
use Rattle.quiescence.proofs.round.Round.unite.Given as goal

abbrev pub ghosts-join : goal.ghosts-join
ghosts-join a = record { shape = a.self.now.shape; deed = Climb 0 }
