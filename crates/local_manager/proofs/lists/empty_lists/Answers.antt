use Rattle.std.proofs.Common.{arith}
use Rattle.std.proofs.lemmas.Grind.{common_steps}
use Rattle.local_manager.specs.Directories.{home_of}
use Rattle.local_manager.proofs.Sharing.{split_none, split_pushed}
use Rattle.local_manager.proofs.lists.empty_lists.Goals as goal

pub loop-m-init : goal.loop-m-init
loop-m-init c = record { long = grind (arith, common_steps); empty = λ homes. rw c.in_ok-lists.ensures.items (split_none (home_of homes)) }

pub loop-m-preserved : goal.loop-m-preserved
loop-m-preserved c =
    record {
      long = grind (arith, common_steps, c.loop-m.invariant.long);
      empty = λ homes. rw c.in_ok-push.ensures.items (split_pushed homes c.loop-m.lists.items c.new.result c.new.ensures.list (c.loop-m.invariant.empty homes));
    }
