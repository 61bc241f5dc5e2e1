use Rattle.std.proofs.Common.{ap, sym, ◌∙◌}
use Rattle.scenario.proofs.Unknown.{unknown_in, least_unknown-keys}
use Rattle.scenario.proofs.fields.least_unknown.Goals as goal

pub loop-key-init : goal.loop-key-init
loop-key-init c = least_unknown-keys _ _ c.keys-key-items.ensures.ordered ∙ ap (unknown_in c.args.owner) (sym (c.into_iter-key-iterator.ensures.into_iter_gives ∙ c.keys-key-items.ensures.rest))
