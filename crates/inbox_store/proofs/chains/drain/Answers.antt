use Rattle.std.proofs.Common.{arith, refl, ap}
use Rattle.std.proofs.lemmas.List.{take_at, drop_at, get_or_read}
use Rattle.inbox_store.specs.Chains.{newest, no_chain}
use Rattle.inbox_store.specs.declared.chains.Chain.{Chain}
use Rattle.inbox_store.proofs.Fronts.{length_newest}
use Rattle.inbox_store.proofs.chains.drain.Goals as goal

pub copy_out-requires-clause-room : goal.copy_out-requires-clause-room
copy_out-requires-clause-room c =
    let e = get_or_read c.args.chains.now.items c.args.list c.index-chain.result.now c.requires.list_in c.index-chain.ensures no_chain in
    omega (arith, length_newest c.args.nodes.now.items c.args.chains.now.items c.args.list, ap (λ (e : Chain). e.count) e)

pub copy_out-requires-clause-inside : goal.copy_out-requires-clause-inside
copy_out-requires-clause-inside c =
    let e = get_or_read c.args.chains.now.items c.args.list c.index-chain.result.now c.requires.list_in c.index-chain.ensures no_chain in
    rw (c.as_slice.ensures.value, e) (λ x h. (c.requires.sound.owned c.args.list x h).1)

pub returns-clause-taken : goal.returns-clause-taken
returns-clause-taken c =
    let e = get_or_read c.args.chains.now.items c.args.list c.index-chain.result.now c.requires.list_in c.index-chain.ensures no_chain in
    rw (
      c.reverse_from.ensures.list,
      c.copy_out.ensures.taken,
      c.len-at.ensures,
      c.as_slice.ensures.value,
      e,
      take_at c.args.into.now.list (newest c.args.nodes.now.items c.args.chains.now.items c.args.list) _ refl,
      drop_at c.args.into.now.list (newest c.args.nodes.now.items c.args.chains.now.items c.args.list) _ refl,
    ) refl

pub returns-clause-spare : goal.returns-clause-spare
returns-clause-spare c =
    let e = get_or_read c.args.chains.now.items c.args.list c.index-chain.result.now c.requires.list_in c.index-chain.ensures no_chain in
    omega (arith, length_newest c.args.nodes.now.items c.args.chains.now.items c.args.list, ap (λ (e : Chain). e.count) e)
