use Rattle.std.proofs.Common.{◌≡◌, length, map, take}
use Rattle.local_manager.specs.Directories.{home_of}
use Rattle.local_manager.specs.Merged.{IsSplit}
use Rattle.local_manager.proofs.lists.share_out.Given as goal

abbrev pub invariant-loop-id : goal.invariant-loop-id
invariant-loop-id l = record {
  long : length l.lists ≡ length l.fn.lists;
  split : IsSplit (home_of l.homes) (take l.id-index l.ids)
      (map (λ r. r.list) l.lists);
}
