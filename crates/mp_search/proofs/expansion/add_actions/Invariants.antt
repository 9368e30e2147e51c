use Rattle.std.proofs.Common.{◌≡◌, ◌≤◌, ◌-◌, length}
use Rattle.mp_search.specs.StateKeys.{HasSizes}
use Rattle.mp_search.specs.Steps.{parent_of}
use Rattle.mp_search.proofs.ActionSteps.{AreApplied}
use Rattle.mp_search.proofs.expansion.add_actions.Given as goal

abbrev pub invariant-loop-number : goal.invariant-loop-number
invariant-loop-number g l = record {
  inside : l.from ≤ length l.context.task.acts;
  applied : AreApplied l.context.task (g.H.Heuristic.value l.context.task) (parent_of l.parent) l.from l.out l.fn.progress.states l.progress.states;
  heuristic : g.H.Heuristic.is_for l.progress.heuristic l.context.task;
  sizes : HasSizes l.context.task.publics l.context.task.privates l.reached;
  tags : l.reached.key.tags ≡ l.parent.state.key.tags;
}

abbrev pub decreases-loop-number : goal.decreases-loop-number
decreases-loop-number g l = length l.context.task.acts - l.from
