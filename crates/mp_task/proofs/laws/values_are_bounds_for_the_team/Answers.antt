use Rattle.std.proofs.lemmas.List.Elements.{All-contains}
use Rattle.mp_runs.specs.Simulation.{StandsForAll}
use Rattle.mp_task.specs.Limits.{IsWithinLimits}
use Rattle.mp_task.specs.Plan.{private_of, task_cost}
use Rattle.mp_task.specs.Seen.{seen_system, seen_state, IsSeenAs}
use Rattle.mp_task.proofs.Estimates.{value_is_some, value_at_most}
use Rattle.mp_task.proofs.SeenPlan.{seen_plan}
use Rattle.mp_task.proofs.laws.values_are_bounds_for_the_team.Goals as goal

pub returns : goal.returns
returns g c = record {
  small = λ tasks t s limits here. g.met.H.Heuristic.small t s.publics (private_of s t.me) (All-contains IsWithinLimits tasks t limits here);
  alive = λ tasks t s plan are here joint solves.
      value_is_some (seen_system t) (StandsForAll (IsSeenAs tasks t) plan) (seen_state t s) (task_cost tasks plan) (seen_plan tasks are t here s plan joint solves) _
      (g.met.H.Heuristic.dead t s.publics (private_of s t.me) (All-contains IsWithinLimits tasks t are.within here));
  admissible = λ tasks t s plan are here joint solves.
      value_at_most (seen_system t) (StandsForAll (IsSeenAs tasks t) plan) (seen_state t s) (task_cost tasks plan) (seen_plan tasks are t here s plan joint solves) _
      (g.met.H.Heuristic.admissible t s.publics (private_of s t.me) (All-contains IsWithinLimits tasks t are.within here));
}
