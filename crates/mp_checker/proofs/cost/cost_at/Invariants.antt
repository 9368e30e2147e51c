use Rattle.std.proofs.Common.{◌≡◌, ◌+◌, drop}
use Rattle.std.specs.Option.{option_map}
use Rattle.mp_checker.specs.Costs.{cost_at}
use Rattle.mp_checker.proofs.cost.cost_at.Given as goal

abbrev pub invariant-loop-amount : goal.invariant-loop-amount
invariant-loop-amount l =
    option_map (λ rest. l.sum + rest) (cost_at l.values.entries l.args (drop l.amount-index l.amounts))
    ≡ cost_at l.values.entries l.args l.amounts
