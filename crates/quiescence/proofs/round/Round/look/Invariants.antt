use Rattle.quiescence.proofs.round.Round.look.Given as goal

abbrev pub ghosts-read : goal.ghosts-read
ghosts-read a = record { shape = a.self.now.shape; deed = a.deed }
