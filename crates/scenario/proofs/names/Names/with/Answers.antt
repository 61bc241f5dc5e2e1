use Rattle.std.proofs.Common.{ℕ, ◌+◌, List, length, Some, cond, bytes_eq, ap, sym, ◌∙◌}
use Rattle.std.proofs.lemmas.Map.Text.{btree_map_updates_str}
use Rattle.scenario.specs.Names.{place_in}
use Rattle.scenario.proofs.Placing.{place_in-append}
use Rattle.scenario.proofs.names.Names.with.Goals as goal

pub invariant_of-result : goal.invariant_of-result
invariant_of-result c = λ q.
    let name = c.args.name in
    let up = btree_map_updates_str c.args.text.now c.self.inside.places c.insert.new.self (Some c.args.place) c.in_ok-insert.ensures.updates q in
    let longer = ap (λ (ts : List (List ℕ)). place_in ts q) c.in_ok-push.ensures.items in
    up ∙ ap (cond (bytes_eq c.args.text.now q) (Some c.args.place)) (c.self.invariant q)
    ∙ ap (λ n. cond (bytes_eq n q) (Some c.args.place) (place_in c.self.inside.names.items q)) c.requires.text
    ∙ sym (longer ∙ place_in-append c.self.inside.names.items name q c.args.place (ap (λ ts. place_in ts name) c.self.view_is ∙ c.requires.new) (c.requires.at_end ∙ ap (λ ts. length ts + 1) (sym c.self.view_is)))
