use Rattle.std.proofs.Common.{◌∙◌, sym, ap}
use Rattle.agenda.specs.Dues.{least}
use Rattle.agenda_wheel.specs.Kept.{in_bucket}
use Rattle.agenda_wheel.specs.Slots.{sorted}
use Rattle.agenda_wheel.specs.Wheel.{pairs_of}
use Rattle.agenda_wheel.proofs.Firsts.{others_without}
use Rattle.agenda_wheel.proofs.Sets.{rises_sorted}
use Rattle.agenda_wheel.proofs.moves.take_all.Goals as goal

pub renew-requires-clause-others : goal.renew-requires-clause-others
renew-requires-clause-others c = λ b small ne.
    c.requires.leasts.right b small
    ∙ sym (ap (λ dues. least (in_bucket b dues)) c.take_each-taken.ensures.left
    ∙ ap least (others_without c.args.tick (sorted (pairs_of c.args.nodes.now)) b (rises_sorted (pairs_of c.args.nodes.now)) (λ e. ne (e
    ∙ sym c.bucket_of.ensures))))
