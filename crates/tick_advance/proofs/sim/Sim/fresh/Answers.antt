use Rattle.tick_advance.specs.Log.{log_of}
use Rattle.tick_advance.proofs.Standing.{sound_too}
use Rattle.tick_advance.proofs.sim.Sim.fresh.Goals as goal

pub invariant_of-self : goal.invariant_of-self
invariant_of-self g c =
    let i = c.self.inside in
    sound_too i.world (log_of g.S.Sieve.keeps i.log) (log_of g.S.Sieve.keeps c.fresh.new.self) i.tree.leaves i.workers i.position
    (record { ends = c.fresh.ensures.later; buffers = c.fresh.ensures.managers }) c.self.invariant

pub invariant_of-self-in-Err : goal.invariant_of-self-in-Err
invariant_of-self-in-Err g c =
    let i = c.self.inside in
    sound_too i.world (log_of g.S.Sieve.keeps i.log) (log_of g.S.Sieve.keeps c.fresh.new.self) i.tree.leaves i.workers i.position
    (record { ends = c.fresh.ensures.later; buffers = c.fresh.ensures.managers }) c.self.invariant
