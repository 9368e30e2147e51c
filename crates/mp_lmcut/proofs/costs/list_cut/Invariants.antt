use Rattle.std.proofs.Common.{◌≡◌, ℕ, ◌<◌, get_or, length}
use Rattle.mp_sets.specs.Numbers.{Numbers}
use Rattle.mp_estimates.specs.Lowering.{value_at}
use Rattle.mp_lmcut.specs.Cut.{in_cut}
use Rattle.mp_lmcut.specs.Sides.{AreListed, AreNearFacts, AreNoted, AreValuesFor}
use Rattle.mp_lmcut.proofs.costs.list_cut.Given as goal

abbrev pub invariant-loop-x : goal.invariant-loop-x
invariant-loop-x l = record {
  len : length l.near.flags ≡ l.problem.facts;
  marks : AreNearFacts (value_at l.numbers) l.problem.operators l.problem.goals l.most l.near.flags;
  listed : (s : Numbers) → AreValuesFor (value_at l.numbers) l.problem.operators l.problem.goals l.most s → AreListed (in_cut (value_at l.numbers) l.problem.operators l.problem.goals s) l.problem.operators l.cut.items l.costs.items;
  seen : (j : ℕ) → j < l.x-index → (s : Numbers) → AreValuesFor (value_at l.numbers) l.problem.operators l.problem.goals l.most s → AreNoted (in_cut (value_at l.numbers) l.problem.operators l.problem.goals s) l.problem.operators (get_or l.inside j 0) l.cut.items;
}
