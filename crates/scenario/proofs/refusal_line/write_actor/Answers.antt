use Rattle.std.proofs.Common.{◌++◌, codes}
use Rattle.std.specs.Fmt.{decimal}
use Rattle.std.proofs.lemmas.Result.{err_from_is_err_and}
use Rattle.scenario.specs.RefusalLine.{field_text}
use Rattle.scenario.proofs.Writing.{broke_first, writes_more}
use Rattle.scenario.proofs.refusal_line.write_actor.Goals as goal

pub returns-in_err-write_numbered : goal.returns-in_err-write_numbered
returns-in_err-write_numbered g c =
    let p = err_from_is_err_and c.from_residual.result c.from_residual.ensures.1 in
    rw p.1 (broke_first g.E.Sink.written g.E.Sink.faults _ _ (codes "actor " ++ decimal c.args.place.now.actor) (field_text c.args.place.now.field)
    (rw c.from.ensures at c.in_err-write_numbered.ensures))

pub returns : goal.returns
returns g c =
    writes_more g.E.Sink.written g.E.Sink.faults _ _ _ c.write_actor_field.result (codes "actor " ++ decimal c.args.place.now.actor) (field_text c.args.place.now.field)
    (rw c.from.ensures at c.in_ok-write_numbered.ensures) c.write_actor_field.ensures
