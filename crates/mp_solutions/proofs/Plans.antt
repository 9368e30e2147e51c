-- Plans of the tasks by their names: how long they are, and what they cost at least.
use Rattle.std.proofs.Common.{◌≡◌, ℕ, suc, ◌≤◌, List, [], ◌∷◌, length, refl, ap, subst}
use Rattle.mp_forms.specs.declared.factor.Factor.{Factor}
use Rattle.mp_joint.specs.declared.plan.PlanStep.{PlanStep}
use Rattle.mp_joint.specs.FactorContribution.{team_of}
use Rattle.mp_joint.specs.Plan.{Solves, cost as cost_of}
use Rattle.mp_task.specs.AgentTask.{AgentTask}
use Rattle.mp_task.specs.Plan.{TaskSolves, TaskStep, task_cost}
use Rattle.mp_stands.specs.Numbering.{Numbering}
use Rattle.mp_stands.specs.Plans.{AreNamed}
use Rattle.mp_stands.specs.Stands.{Stands}
use Rattle.mp_stands.proofs.NamedPlans.{are_named}
use Rattle.mp_stands.proofs.Simulations.{named_plan, numbered_plan}
use Rattle.mp_team_verdicts.specs.Right.{CostsAtLeast as TasksCostAtLeast, IsUnsolvable as AreTasksUnsolvable}
use Rattle.mp_solutions.specs.Right.{CostsAtLeast, IsUnsolvable}

-- a plan by its numbers is as long
pub same_length : (numbering : Numbering) (numbers : List TaskStep) (plan : List PlanStep) → AreNamed numbering numbers plan → length plan ≡ length numbers
same_length numbering [] [] h = refl
same_length numbering [] (p ∷ ps) h = absurd h
same_length numbering (n ∷ ns) [] h = absurd h
same_length numbering (n ∷ ns) (p ∷ ps) h = ap suc (same_length numbering ns ps h.1)

module _ (team : List Factor) (numbering : Numbering) (tasks : List AgentTask) (stands : Stands team numbering tasks) where
  -- a plan of the tasks by its names
  pub record HasNames (numbers : List TaskStep) : Type 0 where
    pub plan : List PlanStep
    pub named : AreNamed numbering numbers plan
    pub solves : Solves (team_of team) plan
    pub cost_is : cost_of (team_of team) plan ≡ task_cost tasks numbers

  pub has_names : (numbers : List TaskStep) → TaskSolves tasks numbers → HasNames numbers
  has_names numbers h =
      let found = named_plan team numbering tasks stands numbers h in
      record { plan = found.plan; named = are_named numbering numbers found.plan found.stand; solves = found.plans; cost_is = found.fits }

  -- what each plan of the tasks costs at least, each plan of the files does
  pub least_for_files : (least : ℕ) → TasksCostAtLeast tasks least → CostsAtLeast team least
  least_for_files least all plan solves =
      let found = numbered_plan team numbering tasks stands plan solves in
      subst (λ (c : ℕ). least ≤ c) found.fits (all found.plan found.plans)

  -- where no plan solves the tasks, none solves the problem of the files
  pub unsolvable_for_files : AreTasksUnsolvable tasks → IsUnsolvable team
  unsolvable_for_files none plan solves =
      let found = numbered_plan team numbering tasks stands plan solves in
      none found.plan found.plans
