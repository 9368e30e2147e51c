use Rattle.std.proofs.Common.{◌≡◌, true, length}
use Rattle.mp_estimates.specs.Lowering.{value_at}
use Rattle.mp_lmcut.specs.Marked.{IsReaching, is_marked, weight}
use Rattle.mp_lmcut.specs.Sides.{TracesBack}
use Rattle.mp_lmcut.proofs.AskLemmas.{IsBack}
use Rattle.mp_lmcut.proofs.near.is_reached.Given as goal

abbrev pub invariant-facts : goal.invariant-facts
invariant-facts l = record {
  len : length l.asked.flags ≡ l.problem.facts;
  here : is_marked l.asked.flags l.x ≡ true;
  reaching : IsReaching (IsBack (value_at l.numbers) l.problem.operators l.problem.goals l.zone.flags l.most l.x) (TracesBack (value_at l.numbers) l.most l.problem.operators l.zone.flags) l.asked;
}

abbrev pub decreases-facts : goal.decreases-facts
decreases-facts l = weight l.asked
