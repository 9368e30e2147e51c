use Rattle.std.proofs.Common.{◌≡◌, ◌≤◌, ◌-◌, length, drop}
use Rattle.mp_audit.specs.Failures.{cheap_acts, cheap_steps}
use Rattle.mp_audit.specs.States.{IsBeside}
use Rattle.mp_audit.proofs.FirstLemmas.{from_place}
use Rattle.mp_audit.proofs.entries.cheap_actions.Given as goal

abbrev pub invariant-loop-action : goal.invariant-loop-action
invariant-loop-action l = record {
  inside : l.from ≤ length l.task.acts;
  beside : IsBeside l.task l.state l.reached;
  left : from_place (cheap_steps l.known.tasks.now l.known.bounds.now.entries l.entry l.bound l.task) l.from (drop l.from l.task.acts)
      ≡ cheap_acts l.known.tasks.now l.known.bounds.now.entries l.entry l.bound l.task;
}

abbrev pub decreases-loop-action : goal.decreases-loop-action
decreases-loop-action l = length l.task.acts - l.from
