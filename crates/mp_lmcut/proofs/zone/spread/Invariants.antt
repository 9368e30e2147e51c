use Rattle.std.proofs.Common.{◌≡◌, ℕ, true, length, All}
use Rattle.mp_estimates.specs.Lowering.{value_at}
use Rattle.mp_lmcut.specs.Cut.{in_zone}
use Rattle.mp_lmcut.specs.Marked.{IsReaching, is_marked, weight}
use Rattle.mp_lmcut.specs.Sides.{IsFollowed}
use Rattle.mp_lmcut.proofs.zone.spread.Given as goal

abbrev pub invariant-facts : goal.invariant-facts
invariant-facts l = record {
  len : length l.marks.flags ≡ length l.initial.marks.flags;
  kept : (x : ℕ) → is_marked l.initial.marks.flags x ≡ true → is_marked l.marks.flags x ≡ true;
  inside : All (λ y. in_zone (value_at l.numbers) l.problem.operators l.problem.goals y ≡ true) l.inside.items;
  reaching : IsReaching (λ y. in_zone (value_at l.numbers) l.problem.operators l.problem.goals y ≡ true) (IsFollowed (value_at l.numbers) l.problem.operators l.inside.items) l.marks;
}

abbrev pub decreases-facts : goal.decreases-facts
decreases-facts l = weight l.marks
