use Rattle.std.proofs.Common.{◌-◌, ◌<◌, ◌^◌}
use Rattle.sim_cli.proofs.words.word.Given as goal

-- twice the room is more room
abbrev pub invariant-rooms : goal.invariant-rooms
invariant-rooms g l = 0 < l.room

abbrev pub decreases-rooms : goal.decreases-rooms
decreases-rooms g l = 2 ^ 64 - l.room
