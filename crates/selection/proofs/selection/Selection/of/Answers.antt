use Rattle.std.proofs.Common.{◌≡◌, ◌+◌, ◌-◌, [], length, refl, ap, ◌∙◌, subst, arith}
use Rattle.std.proofs.lemmas.Grind.{common_steps}
use Rattle.std.proofs.lemmas.List.{take_all}
use Rattle.sim_model.specs.Cast.{members_from}
use Rattle.sim_model.specs.SetupParts.{SetupParts}
use Rattle.sim_model.specs.Setups.{IsSetup}
use Rattle.selection.specs.Selecting.{Selects}
use Rattle.selection.specs.SelectionParts.{SelectionParts}
use Rattle.selection.specs.declared.selection.Span.{Span}
use Rattle.selection.proofs.Flags.{first_span, flags-length, select_none, select_on, spans-length, within_none, within_on}
use Rattle.selection.proofs.Later.{run_text-stays}
use Rattle.selection.proofs.selection.Selection.of.Given as over
use Rattle.selection.proofs.selection.Selection.of.Goals as goal

pub loop-start-init : goal.loop-start-init
loop-start-init g c =
    let all = c.push.new.self.items in
    let one = first_span c.in_ok-spans.spans.items all c.in_ok-spans.ensures.items c.in_ok-push.ensures.items in
    let none : Span = record { start = 0; len = 0 } in
    record {
      long = spans-length [] all none 0 one refl;
      within = within_none all (length c.new-flags.result.items) one;
      selects = select_none c.args.rules.now (record { spans = all; flags = c.new-flags.result.items }) one;
    }

pub loop-start-preserved : goal.loop-start-preserved
loop-start-preserved g c =
    let m = g.A.Actor.meaning in
    let i = c.loop-start.invariant in
    let start = c.start-item.result in
    let spans = c.loop-start.spans.items in
    let flags = c.loop-start.flags.items in
    let more_spans = c.push-in-loop-start.new.self.items in
    let more_flags = c.add_flags.new.flags.items in
    let span : Span = record { start = c.len-first.result; len = c.len.result - c.len-first.result } in
    let first : c.len-first.result ≡ length flags = grind (arith, common_steps) in
    let all : c.len.result ≡ length more_flags = grind (arith, common_steps) in
    let longer = flags-length c.args.rules.now flags more_flags start.name (m.probes start.state) c.in_ok-add_flags.ensures in
    record {
      long = spans-length spans more_spans span (c.loop-start.start-index + 1) c.in_ok-push-2.ensures.items i.long;
      within = within_on spans more_spans span (length flags) (length more_flags) i.within (omega (arith, longer)) (omega (arith, longer, first, all)) c.in_ok-push-2.ensures.items;
      selects = select_on m c.args.rules.now c.as_slice-starts.result.now c.loop-start.start-index start spans more_spans flags more_flags span c.loop-start-test.true c.start-item.is
          i.long i.within first (omega (arith, longer, first, all)) c.in_ok-push-2.ensures.items c.in_ok-add_flags.ensures i.selects;
    }

selected : (g : over.Over) (c : goal.After-loop-start g) → Selects c.args.rules.now (members_from g.A.Actor.meaning 1 c.args.setup.now.actors)
    (record { spans = c.loop-start.spans.items; flags = c.loop-start.flags.items })
selected g c =
    let s : SelectionParts = record { spans = c.loop-start.spans.items; flags = c.loop-start.flags.items } in
    let all = take_all c.loop-start.start-index c.as_slice-starts.result.now c.loop-start-test.false in
    let actors : c.as_slice-starts.result.now ≡ c.args.setup.now.actors = c.as_slice-starts.ensures ∙ ap (λ (s : SetupParts _). s.actors) c.setup.view_is in
    subst (λ xs. Selects c.args.rules.now (members_from g.A.Actor.meaning 1 xs) s) (all ∙ actors) c.loop-start.invariant.selects

pub returns-clause-selects : goal.returns-clause-selects
returns-clause-selects g c = selected g c

pub returns-clause-text : goal.returns-clause-text
returns-clause-text g c =
    let setup : IsSetup c.args.setup.now = subst (λ s. IsSetup s) c.setup.view_is c.setup.invariant in
    let s : SelectionParts = record { spans = c.loop-start.spans.items; flags = c.loop-start.flags.items } in
    run_text-stays g.A.Actor.meaning g.met.A.Actor.lawful c.args.setup.now setup c.args.rules.now s (selected g c)
