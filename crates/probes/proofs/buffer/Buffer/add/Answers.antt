use Rattle.std.proofs.Common.{◌≡◌, sym, subst, true}
use Rattle.probes.specs.LiveOrder.{ends_before}
use Rattle.probes.proofs.Adding.{sorted_either}
use Rattle.probes.proofs.buffer.Buffer.add.Goals as goal

pub invariant_of-self : goal.invariant_of-self
invariant_of-self c =
    let later = subst (λ rows. ends_before rows c.args.at c.args.id ≡ true) (sym c.self.view_is) c.requires in
    sorted_either c.append.result c.self.inside.rows.items c.append.new.rows.items c.args.at c.args.id c.args.samples.now c.self.invariant later c.append.ensures.ok c.append.ensures.err
