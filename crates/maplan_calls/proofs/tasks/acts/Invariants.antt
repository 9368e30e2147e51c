use Rattle.std.proofs.Common.{All}
use Rattle.mp_task.specs.Limits.{ActFits}
use Rattle.maplan_calls.proofs.tasks.acts.Given as goal

abbrev pub invariant-loop-line : goal.invariant-loop-line
invariant-loop-line l = All (ActFits l.facts l.facts) l.acts
