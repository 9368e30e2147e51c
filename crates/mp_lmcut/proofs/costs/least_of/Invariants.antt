use Rattle.std.proofs.Common.{◌≡◌, drop}
use Rattle.mp_estimates.specs.Estimates.{lesser}
use Rattle.mp_lmcut.specs.Cut.{least}
use Rattle.mp_lmcut.proofs.costs.least_of.Given as goal

abbrev pub invariant-loop-cost : goal.invariant-loop-cost
invariant-loop-cost l = lesser l.known (least (drop l.cost-index l.costs)) ≡ least l.costs
