use Rattle.std.proofs.Common.{ℕ, List, length, Option, subst}
use Rattle.agenda_wheel.specs.Seen.{IsLeastBelow}
use Rattle.agenda_wheel.proofs.Groups.{least_of_groups}
use Rattle.agenda_wheel.proofs.levels.Leasts.least.Goals as goal

pub returns : goal.returns
returns c =
    rw (← c.self.view_is)
    (least_of_groups c.self.inside.buckets.items c.self.inside.groups.items c.least_of_all.result c.self.invariant
    (subst (λ (ls : List (Option ℕ)). IsLeastBelow ls (length ls) c.least_of_all.result) c.as_slice.ensures.value c.least_of_all.ensures))
