use Rattle.std.proofs.Common.{All, subst}
use Rattle.std.proofs.lemmas.List.{take_all}
use Rattle.std.proofs.lemmas.List.Elements.{All-more}
use Rattle.mp_task.specs.Limits.{IsWithinLimits}
use Rattle.mp_certificates.proofs.read.are_within_limits.Goals as goal

pub loop-task-preserved : goal.loop-task-preserved
loop-task-preserved c =
    All-more IsWithinLimits c.args.tasks.now c.loop-task.task-index c.task-item.result c.loop-task-test.true
    c.loop-task.invariant (subst IsWithinLimits c.task-item.is c.is_within_limits.ensures)

pub returns : goal.returns
returns c =
    subst (All IsWithinLimits) (take_all c.loop-task.task-index c.args.tasks.now c.loop-task-test.false)
    c.loop-task.invariant
