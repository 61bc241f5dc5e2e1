use Rattle.std.proofs.Common.{◌≡◌}
use Rattle.std.specs.List.{fold}
use Rattle.sim_model.specs.Moment.{ask_of, put_state}
use Rattle.local_manager.proofs.states.apply_all.Given as goal

abbrev pub invariant-loop-report : goal.invariant-loop-report
invariant-loop-report g l = record {
  states : l.states.items ≡ fold put_state l.fn.states.items l.yielded;
  agenda : l.directory ≡ record l.fn.directory { agenda = fold ask_of l.fn.directory.agenda l.yielded };
}
