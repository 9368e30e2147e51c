-- The tasks and the united problem simulate each other, at equal costs.
use Rattle.std.proofs.Common.{◌≡◌, List, sym, ◌∙◌}
use Rattle.mp_runs.specs.Simulation.{Simulates, StandsForAll}
use Rattle.mp_runs.proofs.Costs.{equal_costs}
use Rattle.mp_runs.proofs.Simulations.{IsAnsweringPlan, simulated_plan}
use Rattle.mp_forms.specs.declared.factor.Factor.{Factor}
use Rattle.mp_joint.specs.declared.plan.PlanStep.{PlanStep}
use Rattle.mp_joint.specs.FactorContribution.{team_of}
use Rattle.mp_joint.specs.Plan as joint
use Rattle.mp_joint.specs.Plan.{united}
use Rattle.mp_task.specs.AgentTask.{AgentTask}
use Rattle.mp_task.specs.Plan as task
use Rattle.mp_task.specs.Plan.{TaskStep, team_system}
use Rattle.mp_stands.specs.Numbering.{Numbering}
use Rattle.mp_stands.specs.Stands.{Stands}
use Rattle.mp_stands.proofs.States.{Matches}
use Rattle.mp_stands.proofs.MatchingStarts.{starts_match, same_goals}
use Rattle.mp_stands.proofs.Answering.{IsNameOf, IsNumberOf, by_name, by_number}

module _ (team : List Factor) (numbering : Numbering) (tasks : List AgentTask) (stands : Stands team numbering tasks) where
  names_simulate : Simulates (united (team_of team)) (team_system tasks) (λ u v. Matches team numbering tasks v u) (IsNameOf numbering) (λ c d. c ≡ d)
  names_simulate = record {
    step = λ s state reached number m ran. by_name team numbering tasks stands s state reached number m ran;
    goal = λ s state m goal. sym (same_goals team numbering tasks stands state s m) ∙ goal;
  }

  numbers_simulate : Simulates (team_system tasks) (united (team_of team)) (Matches team numbering tasks) (IsNumberOf numbering) (λ c d. c ≡ d)
  numbers_simulate = record {
    step = λ state s reached step m ran. by_number team numbering tasks stands state s reached step m ran;
    goal = λ state s m goal. same_goals team numbering tasks stands state s m ∙ goal;
  }

  -- a plan of the tasks is answered by one by names
  pub named_plan : (numbers : List TaskStep) → task.TaskSolves tasks numbers
      → IsAnsweringPlan (united (team_of team)) (StandsForAll (IsNameOf numbering) numbers) (λ c d. c ≡ d) (joint.joint_start (team_of team)) (task.task_cost tasks numbers)
  named_plan numbers h =
      simulated_plan (united (team_of team)) (team_system tasks) (λ u v. Matches team numbering tasks v u) (IsNameOf numbering) (λ c d. c ≡ d) equal_costs
      names_simulate numbers (joint.joint_start (team_of team)) (task.joint_start tasks) (starts_match team numbering tasks stands) h

  -- and a plan by names by one of the tasks
  pub numbered_plan : (plan : List PlanStep) → joint.Solves (team_of team) plan
      → IsAnsweringPlan (team_system tasks) (StandsForAll (IsNumberOf numbering) plan) (λ c d. c ≡ d) (task.joint_start tasks) (joint.cost (team_of team) plan)
  numbered_plan plan h =
      simulated_plan (team_system tasks) (united (team_of team)) (Matches team numbering tasks) (IsNumberOf numbering) (λ c d. c ≡ d) equal_costs
      numbers_simulate plan (task.joint_start tasks) (joint.joint_start (team_of team)) (starts_match team numbering tasks stands) h
