use Rattle.std.proofs.Common.{◌≤◌, All, take}
use Rattle.mp_estimates.specs.Lowering.{number_at}
use Rattle.mp_relaxed.proofs.search.first_above.Given as goal

abbrev pub invariant-loop-at : goal.invariant-loop-at
invariant-loop-at l = All (λ x. number_at l.numbers x ≤ l.cost) (take l.at l.facts)
