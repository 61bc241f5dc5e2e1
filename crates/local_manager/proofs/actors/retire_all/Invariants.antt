use Rattle.std.proofs.Common.{◌≡◌, take}
use Rattle.std.specs.List.{fold}
use Rattle.agenda.specs.Dues.{without_actor}
use Rattle.local_manager.specs.Directories.{without_loads}
use Rattle.local_manager.proofs.actors.retire_all.Given as goal

abbrev pub invariant-loop-id : goal.invariant-loop-id
invariant-loop-id g l = l.directory ≡ record l.fn.directory {
  placed = without_loads l.fn.directory.placed (take l.id-index l.ids);
  agenda = fold (λ dues id. without_actor id dues) l.fn.directory.agenda (take l.id-index l.ids);
}
