use Rattle.std.proofs.Common.{arith, ◌<◌, length, ap}
use Rattle.std.proofs.lemmas.List.{get_or_read}
use Rattle.inbox_store.specs.Chains.{chain_of, no_chain}
use Rattle.inbox_store.specs.declared.chains.Chain.{Chain}
use Rattle.inbox_store.proofs.Fronts.{front_in, length_newest}
use Rattle.inbox_store.proofs.chains.empty.Goals as goal

pub index-requires-in-loop-nodes-2 : goal.index-requires-in-loop-nodes-2
index-requires-in-loop-nodes-2 c =
    let within : c.args.list < length c.loop-nodes.chains.items = omega (arith, c.loop-nodes.invariant.size) in
    let e0 = get_or_read c.loop-nodes.chains.items c.args.list c.index.result.now within c.index.ensures no_chain in
    let e1 = get_or_read c.loop-nodes.chains.items c.args.list c.index-in-loop-nodes.result.now within c.index-in-loop-nodes.ensures no_chain in
    let some : 0 < (chain_of c.loop-nodes.chains.items c.args.list).count = rw e0 at c.loop-nodes-test.true in
    rw e1 (omega (arith, front_in c.loop-nodes.nodes.items c.loop-nodes.chains.items c.args.list c.loop-nodes.invariant.sound some))

pub returns-clause-free : goal.returns-clause-free
returns-clause-free c =
    let within : c.args.list < length c.loop-nodes.chains.items = omega (arith, c.loop-nodes.invariant.size) in
    let e0 = get_or_read c.loop-nodes.chains.items c.args.list c.index.result.now within c.index.ensures no_chain in
    omega (arith, length_newest c.args.nodes.now.items c.args.chains.now.items c.args.list, ap (λ (e : Chain). e.count) e0)
