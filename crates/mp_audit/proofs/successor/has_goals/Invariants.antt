use Rattle.std.proofs.Common.{◌≡◌, drop}
use Rattle.mp_task.specs.Plan.{goals_hold}
use Rattle.mp_audit.specs.States.{joint_of}
use Rattle.mp_audit.proofs.successor.has_goals.Given as goal

abbrev pub invariant-loop-task : goal.invariant-loop-task
invariant-loop-task l = goals_hold (drop l.task-index l.tasks) (joint_of l.state) ≡ goals_hold l.tasks (joint_of l.state)
