use Rattle.mp_runs.proofs.Costs.{plan_cost-append}
use Rattle.mp_runs.proofs.laws.costs_of_appended_plans.Goals as goal

pub returns : goal.returns
returns g c = λ system before plan. plan_cost-append system before plan
