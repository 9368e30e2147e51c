use Rattle.std.proofs.Common.{◌≡◌, ◌≤◌, ℕ, length}
use Rattle.std.specs.Prelude.{IfSome, Some, slice_get}
use Rattle.mp_task.specs.AgentTask.{AgentTask}
use Rattle.mp_audit.specs.Tables.{IsFinderOf}
use Rattle.mp_audit.proofs.lookup.finders.Given as goal

abbrev pub invariant-loop-task : goal.invariant-loop-task
invariant-loop-task l = record {
  inside : l.task-index ≤ length l.tasks;
  as_many : length l.made.items ≡ l.task-index;
  each : (k : ℕ) → IfSome (slice_get l.made.items k) (λ finder. (t : AgentTask) → slice_get l.tasks k ≡ Some t → IsFinderOf t finder);
}
