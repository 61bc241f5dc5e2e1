use Rattle.std.proofs.Common.{◌≡◌, ◌-◌, suc, arith}
use Rattle.inbox_store.specs.Chains.{chain_of}
use Rattle.inbox_store.proofs.Shifting.{room, first_in, shifts}
use Rattle.inbox_store.proofs.chains.move_front.Goals as goal

pub shift-requires : goal.shift-requires
shift-requires c =
    let n = (chain_of c.args.chains.now.items c.args.from).count - 1 in
    let count : (chain_of c.args.chains.now.items c.args.from).count ≡ suc n = omega arith in
    record {
      apart = c.requires.apart;
      from_in = c.requires.from_in;
      to_in = c.requires.to_in;
      some = c.requires.some;
      node_in = first_in c.args.nodes.now.items c.args.chains.now.items c.args.from c.args.to c.args.letter c.requires.apart c.requires.from_in c.requires.to_in n count c.requires.sound;
      fits = room c.args.nodes.now.items c.args.chains.now.items c.args.from c.args.to c.args.letter c.requires.apart c.requires.from_in c.requires.to_in n count c.requires.sound;
    }

pub returns : goal.returns
returns c =
    let n = (chain_of c.args.chains.now.items c.args.from).count - 1 in
    let count : (chain_of c.args.chains.now.items c.args.from).count ≡ suc n = omega arith in
    rw (c.shift.ensures.nodes, c.shift.ensures.chains) (shifts c.args.nodes.now.items c.args.chains.now.items c.args.from c.args.to c.args.letter c.requires.apart c.requires.from_in c.requires.to_in n count c.requires.sound)
