use Rattle.std.proofs.Common.{All, take}
use Rattle.mp_task.specs.Limits.{IsWithinLimits}
use Rattle.mp_certificates.proofs.read.are_within_limits.Given as goal

abbrev pub invariant-loop-task : goal.invariant-loop-task
invariant-loop-task l = All IsWithinLimits (take l.task-index l.tasks)
