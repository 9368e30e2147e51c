use Rattle.std.proofs.Common.{◌≡◌, All, length}
use Rattle.mp_task.specs.Limits.{ActFits}
use Rattle.maplan_peers.proofs.tasks.acts.Given as goal

abbrev pub invariant-loop-row : goal.invariant-loop-row
invariant-loop-row l = (length l.acts ≡ l.row-index) × All (ActFits l.publics l.privates) l.acts
