use Rattle.std.proofs.Common.{arith, ◌≡◌, ◌∙◌, refl, sym, ℕ, ◌<◌, Bool, true, false, not, List, [], length, get_or}
use Rattle.std.proofs.lemmas.List.{get_or_default, take_more_same}
use Rattle.std.proofs.lemmas.Slice.Eq.{bytes_eq-Decides}
use Rattle.sim_model.proofs.kind.has_probes.Goals as goal

not_apart : (b : Bool) → not b ≡ false → b ≡ true
not_apart true e = refl
not_apart false e = sym e

pub loop-n-preserved : goal.loop-n-preserved
loop-n-preserved g c =
    let names : List (List ℕ) = c.args.names.now in
    let probes : List (List ℕ) = g.A.Actor.meaning.probes c.args.state.now in
    let name : List ℕ = c.as_bytes.result.now in
    let probe : List ℕ = c.as_bytes-in-loop-n.result.now in
    let here : c.loop-n.n < length names = omega (arith, c) in
    let there : c.loop-n.n < length probes = omega (arith, c) in
    let same : name ≡ probe = (bytes_eq-Decides name probe).0 (not_apart _ (sym c.ne.ensures ∙ c.if-ne.false)) in
    let named : get_or names c.loop-n.n [] ≡ name = sym (c.as_bytes.ensures.bytes ∙ c.index-names-n.is ∙ get_or_default names c.loop-n.n _ [] here) in
    take_more_same names probes c.loop-n.n [] here there c.loop-n.invariant (named ∙ same ∙ c.as_bytes-in-loop-n.ensures.value ∙ c.probe.ensures)
