use Rattle.std.proofs.Common.{map, ◌∙◌}
use Rattle.std.proofs.lemmas.List.{length-map}
use Rattle.sim_base.specs.declared.ids.ActorId.{ActorId}
use Rattle.sim_base.specs.Room.{Room}
use Rattle.local_manager.proofs.Sharing.{nobody_yet}
use Rattle.local_manager.proofs.directory.Directory.new.Goals as goal

pub invariant_of-result : goal.invariant_of-result
invariant_of-result g c =
    let lists = c.in_ok-empty_lists.field-0.items in
    let long = length-map {A = Room ActorId} lists (λ r. r.list) ∙ c.in_ok-empty_lists.ensures.count in
    rw (c.new.ensures.items, c.in_ok-no_loads.ensures, c.in_ok-empty_domains.ensures)
    (nobody_yet c.args.managers (map {A = Room ActorId} (λ r. r.list) lists) c.requires.some c.requires.few long c.in_ok-empty_lists.ensures.empty).kept

pub returns : goal.returns
returns g c =
    let lists = c.in_ok-empty_lists.field-0.items in
    let long = length-map {A = Room ActorId} lists (λ r. r.list) ∙ c.in_ok-empty_lists.ensures.count in
    let all = nobody_yet c.args.managers (map {A = Room ActorId} (λ r. r.list) lists) c.requires.some c.requires.few long c.in_ok-empty_lists.ensures.empty in
    rw (c.new.ensures.items, c.in_ok-no_loads.ensures, c.in_ok-empty_domains.ensures) (cc (all.agenda, all.scheduled))
