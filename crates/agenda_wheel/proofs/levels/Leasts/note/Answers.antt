use Rattle.std.proofs.Common.{arith}
use Rattle.std.proofs.lemmas.List.{with_items_is}
use Rattle.agenda_wheel.proofs.Groups.{group_noted}
use Rattle.agenda_wheel.proofs.levels.Leasts.note.Goals as goal

pub invariant_of-self : goal.invariant_of-self
invariant_of-self c =
    rw (
      with_items_is c.self.inside.buckets c.lower.new.leasts (omega arith),
      with_items_is c.self.inside.groups c.lower-2.new.leasts (omega arith),
      c.lower.ensures,
      c.lower-2.ensures,
      c.as_mut_slice.ensures.value,
      c.as_mut_slice-2.ensures.value,
    )
    (group_noted c.self.inside.buckets.items c.self.inside.groups.items c.args.bucket c.args.tick c.requires c.self.invariant)
