use Rattle.std.proofs.Common.{◌≡◌, length, arith}
use Rattle.std.proofs.lemmas.List.{get_or_read}
use Rattle.inbox_store.specs.Chains.{no_chain}
use Rattle.inbox_store.proofs.Growing.{grows}
use Rattle.inbox_store.proofs.chains.add_node.Goals as goal

pub returns-clause-grows : goal.returns-clause-grows
returns-clause-grows c =
    let e = get_or_read c.args.chains.now.items 0 c.index.result.now c.requires.some c.index.ensures no_chain in
    let at : c.len-at.result ≡ length c.args.nodes.now.items = omega arith in
    rw (c.push_reserved.ensures.items, at, e) (grows c.args.nodes.now.items c.args.chains.now.items _ c.requires.some c.requires.sound)
