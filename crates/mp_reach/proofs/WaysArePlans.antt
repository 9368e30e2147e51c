-- A way through the searches of the agents is a plan of the team, so that what bounds plans bounds ways.
use Rattle.std.proofs.Common.{◌≡◌, ℕ, List, [], ◌∷◌, Some, refl, ap, ◌∙◌, arith}
use Rattle.std.specs.Option.{option_map_or}
use Rattle.mp_runs.proofs.Costs.{plan_cost-cons}
use Rattle.mp_runs.proofs.Runs.{run-first, run-none}
use Rattle.mp_task.specs.declared.act.Act.{Act}
use Rattle.mp_task.specs.AgentTask.{AgentTask}
use Rattle.mp_task.specs.Plan.{TaskStep, SolvesFrom, after_step, step_cost, task_cost, team_system}
use Rattle.mp_order.proofs.InOrder.{solved, solves}
use Rattle.mp_order.proofs.Solving.{step_leads}
use Rattle.mp_reach.specs.LeadsOn.{Known, LeadsOn, IsGoal, any_action}
use Rattle.mp_reach.specs.LeadsOn.LeadsOn.{alone, to_another}
use Rattle.mp_reach.specs.Ways.{Way}
use Rattle.mp_reach.specs.Ways.Way.{arrived, onward}

module _ (tasks : List AgentTask) where
  record HasStep (k : Known) (cost : ℕ) (next : Known) : Type 0 where
    step : TaskStep
    leads : after_step tasks k.state step ≡ Some next.state
    costs : step_cost tasks step ≡ cost

  step_of : (k next : Known) (cost : ℕ) → LeadsOn tasks k cost next → HasStep k cost next
  step_of k next cost (alone t s reached step here takes) =
      record { step = step; leads = step_leads tasks t.me any_action s reached step takes; costs = ap (λ o. option_map_or (λ (act : Act). act.cost) o 0) takes.is }
  step_of k next cost (to_another t other s reached step here there takes visible concerns) =
      record { step = step; leads = step_leads tasks t.me any_action s reached step takes; costs = ap (λ o. option_map_or (λ (act : Act). act.cost) o 0) takes.is }

  pub way_plan : (k last : Known) (cost : ℕ) → Way (LeadsOn tasks) k cost last → IsGoal tasks last → (plan : List TaskStep) × SolvesFrom tasks k.state plan × (task_cost tasks plan ≡ cost)
  way_plan k last cost (arrived _) goal = ([], solves tasks k.state k.state [] (run-none (after_step tasks) k.state) goal, refl)
  way_plan k last cost (onward _ next _ now later leads way) goal =
      let it = step_of k next now leads in
      let rest = way_plan next last later way goal in
      let done = solved tasks next.state rest.0 rest.1 in
      let sum = plan_cost-cons (team_system tasks) it.step rest.0 in
      let one = it.costs in
      let others = rest.2 in (
        it.step ∷ rest.0,
        solves tasks k.state done.last (it.step ∷ rest.0) (run-first (after_step tasks) k.state next.state it.step rest.0 it.leads ∙ done.ran) done.goals,
        omega arith,
      )
