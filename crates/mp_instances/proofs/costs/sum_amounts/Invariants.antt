use Rattle.mp_instances.proofs.Basics.{◌≡◌, ◌+◌, drop, option_map, cost_at}
use Rattle.mp_instances.proofs.costs.sum_amounts.Given as goal

abbrev pub invariant-loop-amount : goal.invariant-loop-amount
invariant-loop-amount l =
    option_map (λ rest. l.sum + rest) (cost_at l.values l.objects (drop l.amount-index l.amounts))
    ≡ cost_at l.values l.objects l.amounts
