use Rattle.std.proofs.Common.{◌≡◌, ℕ, ◌<◌, true, get_or}
use Rattle.mp_relaxed.specs.Relaxed.{operator_at}
use Rattle.mp_estimates.specs.Lowering.{value_at}
use Rattle.mp_lmcut.specs.Cut.{in_zone}
use Rattle.mp_lmcut.specs.Marked.{HasGrown}
use Rattle.mp_lmcut.specs.Sides.{IsTurned}
use Rattle.mp_lmcut.proofs.zone.turn_all.Given as goal

abbrev pub invariant-loop-k : goal.invariant-loop-k
invariant-loop-k l = record {
  grown : HasGrown (λ y. in_zone (value_at l.numbers) l.problem.operators l.problem.goals y ≡ true) l.initial.marks l.marks;
  done : (j : ℕ) → j < l.k-index → IsTurned (value_at l.numbers) (operator_at l.problem.operators (get_or l.adders j 0)) l.marks.flags;
}
