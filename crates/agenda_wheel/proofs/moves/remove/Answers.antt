use Rattle.std.proofs.Common.{◌≡◌, ◌≢◌, ℕ, ◌<◌, slice_index_or, Some, None, sym, ◌∙◌, subst}
use Rattle.agenda.specs.Dues.{least}
use Rattle.agenda_wheel.specs.Kept.{in_bucket}
use Rattle.agenda_wheel.specs.Slots.{sorted, Distinct}
use Rattle.agenda_wheel.specs.Wheel.{bucket, pairs_of}
use Rattle.agenda_wheel.proofs.Dropping.{still_apart}
use Rattle.agenda_wheel.proofs.Firsts.{others_stay, later_left}
use Rattle.agenda_wheel.proofs.Freeing.{map_get}
use Rattle.agenda_wheel.proofs.moves.remove.Goals as goal

pub leave-requires-clause-others : goal.leave-requires-clause-others
leave-requires-clause-others c =
    subst (λ s. (b : ℕ) → b < 1024 → b ≢ bucket c.args.due → slice_index_or c.args.leasts.now b None ≡ least (in_bucket b (sorted s)))
    (sym c.free.ensures.pairs)
    (others_stay (pairs_of c.args.nodes.now) c.args.at c.args.due (map_get c.args.nodes.now c.args.at
    ∙ c.requires.used) c.requires.apart c.args.leasts.now c.requires.leasts)

pub leave-requires-clause-later : goal.leave-requires-clause-later
leave-requires-clause-later c =
    subst (λ s. slice_index_or c.args.leasts.now (bucket c.args.due) None ≢ Some c.args.due.tick
    → slice_index_or c.args.leasts.now (bucket c.args.due) None ≡ least (in_bucket (bucket c.args.due) (sorted s))) (sym c.free.ensures.pairs)
    (later_left (pairs_of c.args.nodes.now) c.args.at c.args.due (map_get c.args.nodes.now c.args.at
    ∙ c.requires.used) c.requires.apart c.args.leasts.now c.requires.leasts)

pub leave-requires-clause-apart : goal.leave-requires-clause-apart
leave-requires-clause-apart c =
    subst Distinct (sym c.free.ensures.pairs) (still_apart (pairs_of c.args.nodes.now) c.args.at c.args.due (map_get c.args.nodes.now c.args.at
    ∙ c.requires.used) c.requires.apart)

pub returns-clause-apart : goal.returns-clause-apart
returns-clause-apart c =
    subst Distinct (sym c.free.ensures.pairs) (still_apart (pairs_of c.args.nodes.now) c.args.at c.args.due (map_get c.args.nodes.now c.args.at
    ∙ c.requires.used) c.requires.apart)
