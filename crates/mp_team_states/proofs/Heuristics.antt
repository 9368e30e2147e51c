-- What the promises of a heuristic say of joint states, and what a heuristic that knows nothing says, whatever counts as a goal.
use Rattle.mp_world.proofs.Basics.{◌≡◌, ℕ, ◌<◌, ◌≤◌, ◌^◌, List, None, sym, subst, arith, IfSome, All-contains, none-some, same_Some}
use Rattle.mp_runs.specs.Simulation.{StandsForAll}
use Rattle.mp_runs.specs.System.{IsPlanFrom, plan_cost}
use Rattle.mp_task.specs.Projected.{projected_state}
use Rattle.mp_task.specs.Seen.{IsSeenAs, seen_state, seen_system}
use Rattle.mp_task.proofs.Estimates.{value_at_most}
use Rattle.mp_task.proofs.SeenPlan.{seen_plan}
use Rattle.mp_reach.specs.LeadsOn.{Known}
use Rattle.mp_reach.proofs.WaysArePlans.{way_plan}
use Rattle.mp_world.specs.AgentWords.{AgentTask, IsWithinLimits, private_of, task_cost}
use Rattle.mp_world.specs.SearchWords.{Numbers}
use Rattle.mp_world.specs.Team.{AreTeamTasks, Team}
use Rattle.mp_world.specs.Values.{Values}
use Rattle.mp_team_states.specs.Expansions.{nothing_known}
use Rattle.mp_team_states.proofs.SoundWorlds.{IsHeuristic, IsHeuristicFor}

module _ (value : Values)
    (small : (t : AgentTask) (publics privates : Numbers) → IsWithinLimits t → IfSome (value t publics privates) (λ h. h < 2 ^ 50))
    (dead : (t : AgentTask) (publics privates : Numbers) → IsWithinLimits t → value t publics privates ≡ None → (plan : List ℕ)
    → ¬ IsPlanFrom (seen_system t) (projected_state t publics privates) plan)
    (admissible : (t : AgentTask) (publics privates : Numbers) → IsWithinLimits t → (plan : List ℕ)
    → IsPlanFrom (seen_system t) (projected_state t publics privates) plan → IfSome (value t publics privates) (λ h. h ≤ plan_cost (seen_system t) plan)) where
  pub heuristic_of : (tasks : List AgentTask) → AreTeamTasks tasks → IsHeuristic value tasks
  heuristic_of tasks are = record {
    bounds = λ t k h here joint is cost last way ends.
        let p = way_plan tasks k last cost way ends in
        let within = All-contains IsWithinLimits tasks t are.within here in
        let most =
        value_at_most (seen_system t) (StandsForAll (IsSeenAs tasks t) p.0) (seen_state t k.state) (task_cost tasks p.0) (seen_plan tasks are t here k.state p.0 joint p.1) _
        (admissible t k.state.publics (private_of k.state t.me) within) in
        let bound = subst (λ o. IfSome o (λ x. x ≤ task_cost tasks p.0)) is most in
        let same = p.2 in
        omega arith;
    hopeless = λ t k here joint none cost last way ends.
        let p = way_plan tasks k last cost way ends in
        let within = All-contains IsWithinLimits tasks t are.within here in
        let seen = seen_plan tasks are t here k.state p.0 joint p.1 in
        dead t k.state.publics (private_of k.state t.me) within none seen.plan seen.plans;
    small = λ t publics privates here. small t publics privates (All-contains IsWithinLimits tasks t are.within here);
  }

  pub heuristic_in : (team : Team) → team.value ≡ value → AreTeamTasks team.tasks → IsHeuristic team.value team.tasks
  heuristic_in team same are = subst (λ v. IsHeuristic v team.tasks) (sym same) (heuristic_of team.tasks are)

-- nothing is the least that is still to be paid, and no state is said to lead to no goal
pub knows_nothing : (Goal : Known → Type 0) (tasks : List AgentTask) → IsHeuristicFor Goal nothing_known tasks
knows_nothing Goal tasks = record {
  bounds = λ t k h here joint is cost last way goal. let none = same_Some 0 h is in omega arith;
  hopeless = λ t k here joint none. absurd (none-some 0 (sym none));
  small = λ t publics privates here. omega arith;
}
