use Rattle.std.proofs.Common.{◌∙◌, subst, sym}
use Rattle.sim_model.specs.Setups.{Ascend}
use Rattle.sim_model.proofs.Retiring.{retired_ascend}
use Rattle.sim_model.proofs.closing.close_agenda.Goals as goal

pub drop_all-requires : goal.drop_all-requires
drop_all-requires g c = subst Ascend (sym (c.as_slice.ensures ∙ c.in_ok-retired.ensures)) (retired_ascend c.args.reports.now c.requires)
