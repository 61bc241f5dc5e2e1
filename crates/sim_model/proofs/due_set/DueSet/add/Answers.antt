use Rattle.std.proofs.Common.{◌≡◌, ◌∙◌, rules}
use Rattle.std.specs.BTreeSet.{insert_key}
use Rattle.sim_model.proofs.Dues.{due_cmp, insert_adds}
use Rattle.sim_model.proofs.due_set.DueSet.add.Goals as goal

pub returns : goal.returns
returns c =
    let put : c.insert.new.self.keys ≡ insert_key due_cmp c.args.self.now c.args.due = search rules in
    put ∙ insert_adds c.args.due c.args.self.now
