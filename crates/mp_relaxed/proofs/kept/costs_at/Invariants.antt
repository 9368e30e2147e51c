use Rattle.std.proofs.Common.{◌≡◌, take, map}
use Rattle.mp_relaxed.specs.Relaxed.{operator_at}
use Rattle.mp_relaxed.proofs.kept.costs_at.Given as goal

abbrev pub invariant-loop-k : goal.invariant-loop-k
invariant-loop-k l = l.costs.items ≡ map (λ k. (operator_at l.problem.operators k).cost) (take l.k-index l.numbers)
