use Rattle.std.proofs.Common.{sym}
use Rattle.mp_audit.proofs.successor.has_goals.Goals as goal

pub meets_goals-requires : goal.meets_goals-requires
meets_goals-requires c = c.requires c.task-item.result (c.loop-task.task-index, c.loop-task-test.true, sym c.task-item.is)
