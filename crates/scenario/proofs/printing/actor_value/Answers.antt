use Rattle.std.proofs.Common.{◌≡◌, length, Some, Option, subst, sym, ap, ◌∙◌}
use Rattle.std.proofs.lemmas.List.{length-map}
use Rattle.scenario.specs.Build.{kind_of_actor, show}
use Rattle.scenario.specs.Table.{fields_of, row_of}
use Rattle.scenario.specs.Valid.{AreWithin}
use Rattle.scenario.specs.declared.table.Kind.{Kind}
use Rattle.scenario.proofs.Law.{shown}
use Rattle.scenario.proofs.PrintTurns.{as_many}
use Rattle.scenario.proofs.printing.actor_value.Goals as goal

some_same : (k l : Kind) → ◌≡◌ {A = Option Kind} (Some k) (Some l) → k ≡ l
some_same k l h = cc

pub put_contents-requires-clause-there : goal.put_contents-requires-clause-there
put_contents-requires-clause-there c =
    let h = c.requires.opening in
    let again = shown h.kind h.contents h.fits in
    let is : c.deref.result.now ≡ h.contents = c.deref.ensures.value ∙ c.in_ok-contents.ensures ∙ ap show (sym h.built) ∙ again.1 in
    subst (AreWithin (length c.args.starts.now)) (sym is) h.within

pub put_contents-requires-clause-same : goal.put_contents-requires-clause-same
put_contents-requires-clause-same c =
    let h = c.requires.opening in
    let again = shown h.kind h.contents h.fits in
    let is : c.deref.result.now ≡ h.contents = c.deref.ensures.value ∙ c.in_ok-contents.ensures ∙ ap show (sym h.built) ∙ again.1 in
    let kind : c.in-Some.kind ≡ h.kind = some_same c.in-Some.kind h.kind (c.in-Some.ensures ∙ ap kind_of_actor (sym h.built) ∙ again.0) in
    sym (length-map c.fields_of.result.now row_of) ∙ ap length c.fields_of.ensures ∙ ap (λ (k : Kind). length (fields_of k)) kind ∙ as_many 0 (fields_of h.kind) h.contents h.fits ∙ ap length (sym is)
