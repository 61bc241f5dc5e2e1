use Rattle.std.proofs.Common.{◌≡◌, ◌++◌, take}
use Rattle.std.specs.List.{flat_map, fold}
use Rattle.actor_trait.specs.Balls.{catch, ball_back}
use Rattle.actor_trait.proofs.ball.Ball.catch_all.Given as goal

abbrev pub invariant-loop-letter : goal.invariant-loop-letter
invariant-loop-letter l = record {
  state : l.self ≡ fold catch l.fn.self (take l.letter-index l.inbox);
  sends : l.sends ≡ l.fn.sends ++ flat_map ball_back (take l.letter-index l.inbox);
}
