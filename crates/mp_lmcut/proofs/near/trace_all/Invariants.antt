use Rattle.std.proofs.Common.{◌≡◌, ℕ, ◌<◌, false, get_or, length}
use Rattle.mp_relaxed.specs.Relaxed.{operator_at}
use Rattle.mp_estimates.specs.Lowering.{value_at}
use Rattle.mp_lmcut.specs.Marked.{HasGrown}
use Rattle.mp_lmcut.specs.Sides.{IsBehind, IsTraced, is_source}
use Rattle.mp_lmcut.proofs.near.trace_all.Given as goal

abbrev pub invariant-loop-k : goal.invariant-loop-k
invariant-loop-k l = record {
  len : length l.asked.flags ≡ l.problem.facts;
  grown : HasGrown (IsBehind (value_at l.numbers) l.most l.problem.operators l.zone.flags l.x) l.initial.asked l.asked;
  done : (j : ℕ) → j < l.k-index → (is_source (value_at l.numbers) l.most (operator_at l.problem.operators (get_or l.adders j 0)) ≡ false) × IsTraced (value_at l.numbers) l.zone.flags (operator_at l.problem.operators (get_or l.adders j 0)) l.asked.flags;
}
