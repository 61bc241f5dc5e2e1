use Rattle.std.proofs.Common.{◌≡◌, ◌∙◌, ap, sym, true}
use Rattle.std.specs.Result.{result_ok}
use Rattle.sim_top.proofs.Numbers.{digits_utf8, number_parts, parsed}
use Rattle.sim_top.specs.Words.{is_number, number_of}
use Rattle.sim_top.proofs.options.number_of.Goals as goal

pub unreachable-requires : goal.unreachable-requires
unreachable-requires c =
    let h : is_number c.args.word.now ≡ true = sym c.is_number.ensures ∙ c.if-not-is_number.false in
    c.in-Err.ensures.cases.0 (digits_utf8 c.args.word.now (number_parts c.args.word.now h).2)

pub returns : goal.returns
unfolding number_of
returns c =
    let h : is_number c.args.word.now ≡ true = sym c.is_number.ensures ∙ c.if-not-is_number.false in
    let parts = number_parts c.args.word.now h in
    let same : c.in-Ok.text.now ≡ c.args.word.now = c.in-Ok.ensures.cases.0 in
    let read = parsed c.args.word.now c.parse.result (rw same at c.parse.ensures.value.0) parts.2 parts.0 parts.1 in
    rw h (c.ok.ensures.value ∙ ap result_ok read)
