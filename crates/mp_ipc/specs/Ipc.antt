-- Plans as classical planners and validators write them.
use Rattle.std.specs.Prelude.{ℕ, [], ◌∷◌, ◌++◌, codes, decimal, Result, Ok, Err}
use Rattle.std.specs.List.{flat_map}
use Rattle.mp_joint.specs.declared.plan.PlanStep.{PlanStep}
use Rattle.mp_text.specs.Lines.{Text}
use Rattle.mp_plans.specs.Verdict.{named_text}
use Rattle.mp_plans.specs.declared.plan.PlanText.{PlanText}

-- `(NAME ARG ..)`
abbrev pub step_line : PlanStep → Text
step_line step = named_text step.action step.args ++ 10 ∷ []

-- `; cost = C`
abbrev pub cost_line : ℕ → Text
cost_line cost = codes "; cost = " ++ (decimal cost ++ 10 ∷ [])

-- the actions of a plan in their order, and its cost
abbrev pub ipc_of_plan : PlanText → Text
ipc_of_plan read = flat_map step_line read.plan ++ cost_line read.cost

-- the same of a plan that was read, unless a line of it is refused
abbrev pub ipc_of : Result PlanText ℕ → Result Text ℕ
ipc_of (Ok read) = Ok (ipc_of_plan read)
ipc_of (Err refused) = Err refused
