-- What a moment that is closed leads to.
use Rattle.std.specs.Prelude.{ℕ, ◌+◌, nat_eq, if◌then◌else◌}
use Rattle.sim_base.specs.declared.moment.Ending.TheVariants as ending
use Rattle.sim_base.specs.declared.moment.Moment.{Moment}
use Rattle.sim_model.specs.declared.next.Next.{Next}
use Rattle.sim_model.specs.declared.next.Next.TheVariants.{Enters, Ends}
use Rattle.tick_advance.specs.declared.position.Position.{Position}
use Rattle.tick_advance.specs.declared.position.Position.TheVariants as position
use Rattle.tick_advance.specs.declared.position.Step.{Step}
use Rattle.tick_advance.specs.declared.position.Step.TheVariants as step

-- the next diasca, if it isn't the limit
abbrev pub next_diasca : Moment → ℕ → Next
next_diasca at limit =
    if nat_eq (at.diasca + 1) limit then Ends ending.DiascaLimit else Enters (record { tick = at.tick; diasca = at.diasca + 1 })

-- where a run stands that this comes next for
abbrev pub position_before : Next → Position
position_before (Enters at) = position.Before at
position_before (Ends ending) = position.Ended ending

-- what a moment led to that this comes after
abbrev pub step_before : Next → Step
step_before (Enters at) = if nat_eq at.diasca 0 then step.NextTick else step.NextDiasca
step_before (Ends ending) = step.Ended ending
