use Rattle.quiet_core.specs.Opening.{Counted}
use Rattle.quiet_core.proofs.opening.opening_words.Given as goal

abbrev pub invariant-loop-child : goal.invariant-loop-child
invariant-loop-child l = Counted l.frame l.child l.words.items
