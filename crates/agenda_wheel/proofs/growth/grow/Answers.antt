use Rattle.std.proofs.Common.{◌≡◌, ◌++◌, [], ◌∷◌, length, ap, ◌∙◌, arith}
use Rattle.std.proofs.lemmas.List.{with_items_is}
use Rattle.agenda_wheel.specs.Nodes.{no_node, put_nodes, put_heads}
use Rattle.agenda_wheel.specs.declared.links.Side.TheVariants as side
use Rattle.agenda_wheel.proofs.Growing.{grown_sound, grown_apart, grown_sorted, grown_free}
use Rattle.agenda_wheel.proofs.growth.grow.Goals as goal

pub returns-clause-sound : goal.returns-clause-sound
returns-clause-sound c =
    let a : c.len-at.result ≡ length c.args.nodes.now.items = omega (arith, c.len-at.ensures) in
    let e = c.as_mut_slice.ensures.value ∙ c.push_reserved.ensures.items in
    let n : c.put.new.nodes ≡ put_nodes side.Actor (c.args.nodes.now.items ++ no_node ∷ []) c.args.actors.now (length c.args.nodes.now.items) 0 =
    c.put.ensures.nodes ∙ ap (λ ms. put_nodes side.Actor ms c.args.actors.now c.len-at.result 0) e
    ∙ ap (λ x. put_nodes side.Actor (c.args.nodes.now.items ++ no_node ∷ []) c.args.actors.now x 0) a in
    let h : c.put.new.heads ≡ put_heads c.args.actors.now (length c.args.nodes.now.items) 0 = c.put.ensures.heads
    ∙ ap (λ x. put_heads c.args.actors.now x 0) a in
    rw (with_items_is c.push_reserved.new.self c.put.new.nodes (omega arith), n, h)
    (grown_sound c.args.nodes.now.items c.args._ticks.now c.args.actors.now c.requires.sound c.requires.apart c.requires.lists
    (omega (arith, c.requires.small)))

pub returns-clause-apart : goal.returns-clause-apart
returns-clause-apart c =
    let a : c.len-at.result ≡ length c.args.nodes.now.items = omega (arith, c.len-at.ensures) in
    let e = c.as_mut_slice.ensures.value ∙ c.push_reserved.ensures.items in
    let n : c.put.new.nodes ≡ put_nodes side.Actor (c.args.nodes.now.items ++ no_node ∷ []) c.args.actors.now (length c.args.nodes.now.items) 0 =
    c.put.ensures.nodes ∙ ap (λ ms. put_nodes side.Actor ms c.args.actors.now c.len-at.result 0) e
    ∙ ap (λ x. put_nodes side.Actor (c.args.nodes.now.items ++ no_node ∷ []) c.args.actors.now x 0) a in
    let h : c.put.new.heads ≡ put_heads c.args.actors.now (length c.args.nodes.now.items) 0 = c.put.ensures.heads
    ∙ ap (λ x. put_heads c.args.actors.now x 0) a in
    rw (with_items_is c.push_reserved.new.self c.put.new.nodes (omega arith), n)
    (grown_apart c.args.nodes.now.items c.args._ticks.now c.args.actors.now c.requires.sound c.requires.apart c.requires.lists
    (omega (arith, c.requires.small)))

pub returns-clause-pairs : goal.returns-clause-pairs
returns-clause-pairs c =
    let a : c.len-at.result ≡ length c.args.nodes.now.items = omega (arith, c.len-at.ensures) in
    let e = c.as_mut_slice.ensures.value ∙ c.push_reserved.ensures.items in
    let n : c.put.new.nodes ≡ put_nodes side.Actor (c.args.nodes.now.items ++ no_node ∷ []) c.args.actors.now (length c.args.nodes.now.items) 0 =
    c.put.ensures.nodes ∙ ap (λ ms. put_nodes side.Actor ms c.args.actors.now c.len-at.result 0) e
    ∙ ap (λ x. put_nodes side.Actor (c.args.nodes.now.items ++ no_node ∷ []) c.args.actors.now x 0) a in
    let h : c.put.new.heads ≡ put_heads c.args.actors.now (length c.args.nodes.now.items) 0 = c.put.ensures.heads
    ∙ ap (λ x. put_heads c.args.actors.now x 0) a in
    rw (with_items_is c.push_reserved.new.self c.put.new.nodes (omega arith), n)
    (grown_sorted c.args.nodes.now.items c.args._ticks.now c.args.actors.now c.requires.sound c.requires.apart c.requires.lists
    (omega (arith, c.requires.small)))

pub returns-clause-free : goal.returns-clause-free
returns-clause-free c =
    let a : c.len-at.result ≡ length c.args.nodes.now.items = omega (arith, c.len-at.ensures) in
    let e = c.as_mut_slice.ensures.value ∙ c.push_reserved.ensures.items in
    let n : c.put.new.nodes ≡ put_nodes side.Actor (c.args.nodes.now.items ++ no_node ∷ []) c.args.actors.now (length c.args.nodes.now.items) 0 =
    c.put.ensures.nodes ∙ ap (λ ms. put_nodes side.Actor ms c.args.actors.now c.len-at.result 0) e
    ∙ ap (λ x. put_nodes side.Actor (c.args.nodes.now.items ++ no_node ∷ []) c.args.actors.now x 0) a in
    let h : c.put.new.heads ≡ put_heads c.args.actors.now (length c.args.nodes.now.items) 0 = c.put.ensures.heads
    ∙ ap (λ x. put_heads c.args.actors.now x 0) a in
    rw (with_items_is c.push_reserved.new.self c.put.new.nodes (omega arith), n)
    (grown_free c.args.nodes.now.items c.args._ticks.now c.args.actors.now c.requires.sound c.requires.apart c.requires.lists
    (omega (arith, c.requires.small)))
