use Rattle.std.proofs.Common.{ap, sym, ◌∙◌, subst}
use Rattle.mp_joint.specs.FactorContribution.{team_of}
use Rattle.mp_joint.specs.Plan.{Solves, cost}
use Rattle.mp_task.specs.Plan.{TaskSolves}
use Rattle.mp_stands.proofs.NamedPlans.{are_named, are_numbered, one_plan, one_list}
use Rattle.mp_stands.proofs.Simulations.{named_plan, numbered_plan}
use Rattle.mp_stands.proofs.plans.task_plans_are_plans_by_names.Goals as goal

pub returns-clause-by_names : goal.returns-clause-by_names
returns-clause-by_names c = λ team numbering tasks stands numbers plan names h.
    let found = named_plan team numbering tasks stands numbers h in
    let same = one_plan numbering numbers found.plan plan (are_named numbering numbers found.plan found.stand) names in
    (subst (Solves (team_of team)) same found.plans, ap (cost (team_of team)) (sym same) ∙ found.fits)

pub returns-clause-all_have_names : goal.returns-clause-all_have_names
returns-clause-all_have_names c = λ team numbering tasks stands numbers h.
    let found = named_plan team numbering tasks stands numbers h in
    (found.plan, are_named numbering numbers found.plan found.stand)

pub returns-clause-by_numbers : goal.returns-clause-by_numbers
returns-clause-by_numbers c = λ team numbering tasks stands plan h.
    let found = numbered_plan team numbering tasks stands plan h in
    (found.plan, are_numbered numbering plan found.plan found.stand, found.plans, sym found.fits)

pub returns-clause-named_solve : goal.returns-clause-named_solve
returns-clause-named_solve c = λ team numbering tasks stands numbers plan names agents h.
    let found = numbered_plan team numbering tasks stands plan h in
    subst (TaskSolves tasks) (one_list numbering plan found.plan numbers found.stand names agents) found.plans
