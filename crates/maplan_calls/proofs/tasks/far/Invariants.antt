use Rattle.std.proofs.Common.{All}
use Rattle.mp_task.specs.Limits.{FarFits}
use Rattle.maplan_calls.proofs.tasks.far.Given as goal

abbrev pub invariant-loop-line : goal.invariant-loop-line
invariant-loop-line l = All (FarFits l.agents l.facts) l.far
