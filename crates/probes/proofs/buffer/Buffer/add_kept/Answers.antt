use Rattle.std.proofs.Common.{◌≡◌, sym, subst, true}
use Rattle.probes.specs.Kept.{kept_by}
use Rattle.probes.specs.LiveOrder.{ends_before}
use Rattle.probes.proofs.Adding.{sorted_either}
use Rattle.probes.proofs.buffer.Buffer.add_kept.Goals as goal

pub invariant_of-self : goal.invariant_of-self
invariant_of-self g c =
    let later = subst (λ rows. ends_before rows c.args.at c.args.id ≡ true) (sym c.self.view_is) c.requires in
    sorted_either c.append_kept.result c.self.inside.rows.items c.append_kept.new.rows.items c.args.at c.args.id
    (kept_by (g.S.Sieve.keeps c.args.sieve.now) c.args.id c.args.samples.now) c.self.invariant later c.append_kept.ensures.ok c.append_kept.ensures.err
