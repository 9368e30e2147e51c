use Rattle.std.proofs.Common.{◌≤◌, All, length}
use Rattle.mp_task.specs.Limits.{FarFits}
use Rattle.maplan_peers.proofs.tasks.far.Given as goal

abbrev pub invariant-loop-row : goal.invariant-loop-row
invariant-loop-row l = (length l.far ≤ l.row-index) × All (FarFits l.agents l.publics) l.far
