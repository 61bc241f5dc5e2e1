use Rattle.std.proofs.Common.{List, map, sym, refl}
use Rattle.std.proofs.lemmas.Result.{err_from_is_err_and}
use Rattle.serde_json.specs.View.{view}
use Rattle.scenario.specs.Reading.{contents_at}
use Rattle.scenario.specs.Table.{row_of}
use Rattle.scenario.specs.declared.table.Field.{Field}
use Rattle.scenario.proofs.Turns.{after-none, ended}
use Rattle.scenario.proofs.FieldTurns.{field_read, field_refused}
use Rattle.scenario.proofs.reading.contents_at.Goals as goal

pub loop-field-init : goal.loop-field-init
loop-field-init c = rw c.in_ok-contents.ensures.items (sym (after-none _))

pub returns-in_err-content : goal.returns-in_err-content
returns-in_err-content c =
    let p = err_from_is_err_and c.from_residual-in_err-content.result c.from_residual-in_err-content.ensures.1 in
    rw (p.1, p.2) (field_refused c.args.pass c.args.names.now c.args.actor (view c.args.object.now) c.loop-field.before c.args.fields.now c.loop-field.field-index c.loop-field.contents.items c.in_err-content.field-0.0 _
    c.loop-field-test.true c.in_err-content.ensures c.loop-field.invariant)

pub loop-field-preserved : goal.loop-field-preserved
loop-field-preserved c =
    rw c.in_ok-push.ensures.items
    (field_read c.args.pass c.args.names.now c.args.actor (view c.args.object.now) c.loop-field.before c.args.fields.now c.loop-field.field-index c.loop-field.contents.items c.in_ok-content.content c.number_in-before.result _
    c.loop-field-test.true c.in_ok-content.ensures c.number_in-before.ensures c.loop-field.invariant)

pub returns : goal.returns
returns c =
    let all = λ (fs : List Field). contents_at c.args.pass c.args.names.now c.args.actor (view c.args.object.now) c.loop-field.before (map row_of fs) in
    ended all c.args.fields.now c.loop-field.field-index _ _ c.loop-field-test.false refl c.loop-field.invariant
