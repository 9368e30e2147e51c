use Rattle.std.proofs.Common.{◌≡◌, Some, subst}
use Rattle.std.specs.Prelude.{slice_get}
use Rattle.std.proofs.lemmas.Option.{slice_get_within}
use Rattle.mp_task.specs.AgentTask.{AgentTask}
use Rattle.mp_task.specs.Limits.{ActFits}
use Rattle.mp_search.proofs.KeyedStates.{all_get}
use Rattle.mp_search.proofs.expansion.keeps_limits.Goals as goal

pub returns-clause-fits : goal.returns-clause-fits
returns-clause-fits c =
    subst (λ (x : AgentTask). slice_get x.acts c.args.number ≡ Some c.args.act.now → ActFits x.publics x.privates c.args.act.now) c.task.view_is
    (λ is. all_get (ActFits c.task.inside.publics c.task.inside.privates) c.task.inside.acts c.args.number c.args.act.now c.task.invariant.acts is) c.requires

pub returns-clause-inside : goal.returns-clause-inside
returns-clause-inside c = slice_get_within c.args.task.now.acts c.args.number c.args.act.now c.requires
