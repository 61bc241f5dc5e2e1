use Rattle.std.proofs.Common.{◌≡◌, false, arith, sym, subst, ◌∙◌}
use Rattle.local_manager.specs.declared.opened.Span.{Span}
use Rattle.local_manager.proofs.Opening.{begins, found_here, not_here}
use Rattle.local_manager.proofs.opened.inbox_in.Goals as goal

pub part-requires-clause-ordered : goal.part-requires-clause-ordered
part-requires-clause-ordered c =
    let run = found_here c.args.letters.now c.args.spans.now c.args.to c.in-Some.span c.requires (sym c.span_of.ensures ∙ c.in-Some.is)
    (sym c.begins_at.ensures ∙ c.if-begins_at.true) in
    omega (arith, run.some)

pub part-requires-clause-within : goal.part-requires-clause-within
part-requires-clause-within c =
    let run = found_here c.args.letters.now c.args.spans.now c.args.to c.in-Some.span c.requires (sym c.span_of.ensures ∙ c.in-Some.is)
    (sym c.begins_at.ensures ∙ c.if-begins_at.true) in
    run.within

pub returns-then-begins_at : goal.returns-then-begins_at
returns-then-begins_at c =
    let run = found_here c.args.letters.now c.args.spans.now c.args.to c.in-Some.span c.requires (sym c.span_of.ensures ∙ c.in-Some.is)
    (sym c.begins_at.ensures ∙ c.if-begins_at.true) in
    c.part.ensures ∙ run.all

pub returns-else-begins_at : goal.returns-else-begins_at
returns-else-begins_at c =
    sym (not_here c.args.letters.now c.args.spans.now c.args.to c.requires (λ span is.
    let same : c.in-Some.span ≡ span = cc (c.span_of.ensures, c.in-Some.is, is) in
    subst (λ (s : Span). begins c.args.letters.now s.start c.args.to ≡ false) same (sym c.begins_at.ensures ∙ c.if-begins_at.false)))
