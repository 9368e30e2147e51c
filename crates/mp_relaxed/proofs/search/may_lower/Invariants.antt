use Rattle.std.proofs.Common.{◌≤◌, All, take}
use Rattle.mp_estimates.specs.Lowering.{number_at}
use Rattle.mp_relaxed.proofs.search.may_lower.Given as goal

abbrev pub invariant-loop-y : goal.invariant-loop-y
invariant-loop-y l = All (λ y. number_at l.numbers y ≤ l.cost) (take l.y-index l.y-items)
