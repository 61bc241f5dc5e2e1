use Rattle.scenario.proofs.Places.{of_actor, of_whole}
use Rattle.scenario.proofs.refusal_line.write_place.Goals as goal

pub returns-then-place-eq0 : goal.returns-then-place-eq0
returns-then-place-eq0 g c = rw (of_whole c.args.place.now c.if-place-eq0.true) c.write_field.ensures

pub returns-else-place-eq0 : goal.returns-else-place-eq0
returns-else-place-eq0 g c = rw (of_actor c.args.place.now c.if-place-eq0.false) c.write_actor.ensures
