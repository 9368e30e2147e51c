use Rattle.std.proofs.Common.{◌≡◌, ℕ, ◌<◌, true, Contains, get_or, length}
use Rattle.mp_sets.specs.Numbers.{Numbers}
use Rattle.mp_estimates.specs.Lowering.{value_at}
use Rattle.mp_relaxed.specs.Relaxed.{operator_at}
use Rattle.mp_lmcut.specs.Cut.{in_cut}
use Rattle.mp_lmcut.specs.Sides.{AreNearFacts, AreValuesFor, HaveNoted}
use Rattle.mp_lmcut.proofs.costs.note_each.Given as goal

abbrev pub invariant-loop-k : goal.invariant-loop-k
invariant-loop-k l = record {
  len : length l.near.flags ≡ l.problem.facts;
  marks : AreNearFacts (value_at l.numbers) l.problem.operators l.problem.goals l.most l.near.flags;
  noted : (s : Numbers) → AreValuesFor (value_at l.numbers) l.problem.operators l.problem.goals l.most s → HaveNoted (in_cut (value_at l.numbers) l.problem.operators l.problem.goals s) l.problem.operators l.initial.cut.items l.initial.costs.items l.cut.items l.costs.items;
  each : (j : ℕ) → j < l.k-index → (s : Numbers) → AreValuesFor (value_at l.numbers) l.problem.operators l.problem.goals l.most s → in_cut (value_at l.numbers) l.problem.operators l.problem.goals s (operator_at l.problem.operators (get_or l.operators j 0)) ≡ true → Contains l.cut.items (get_or l.operators j 0);
}
