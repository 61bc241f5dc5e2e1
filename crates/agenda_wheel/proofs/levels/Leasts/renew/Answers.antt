use Rattle.std.proofs.Common.{◌/◌, ℕ, List, Option, None, ◌∙◌, subst, arith}
use Rattle.std.proofs.lemmas.List.{with_items_is, get_or_default}
use Rattle.agenda_wheel.specs.Groups.{in_group}
use Rattle.agenda_wheel.specs.Seen.{LeastOf}
use Rattle.agenda_wheel.proofs.Groups.{group_lowered, group_written}
use Rattle.agenda_wheel.proofs.levels.Leasts.renew.Goals as goal

pub invariant_of-self : goal.invariant_of-self
invariant_of-self c =
    group_written c.self.inside.buckets.items c.self.inside.groups.items c.args.bucket c.args.least c.least_of_group.result c.requires
    c.self.invariant (subst (λ (bs : List (Option ℕ)). LeastOf (in_group bs (c.args.bucket / 32)) 32 c.least_of_group.result)
    c.as_slice.ensures.value c.least_of_group.ensures)

pub invariant_of-self-else-was_least : goal.invariant_of-self-else-was_least
invariant_of-self-else-was_least c =
    rw (with_items_is c.self.inside.groups c.lower.new.leasts (omega arith), c.lower.ensures, c.as_mut_slice.ensures.value)
    (group_lowered c.self.inside.buckets.items c.self.inside.groups.items c.args.bucket c.args.least c.requires c.self.invariant
    (λ t p q. c.was_least.ensures.other c.if-was_least.false t
    (c.index-was.ensures ∙ get_or_default c.self.inside.buckets.items c.args.bucket c.index-was.result.now None (omega arith) ∙ p)
    (c.index.ensures ∙ get_or_default c.self.inside.groups.items (c.args.bucket / 32) c.index.result.now None (omega arith) ∙ q)))
