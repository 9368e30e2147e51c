use Rattle.std.proofs.Common.{◌≡◌, Some, slice_get, subst}
use Rattle.mp_task.specs.AgentTask.{AgentTask}
use Rattle.mp_task.specs.Limits.{ActFits}
use Rattle.mp_search.proofs.KeyedStates.{all_get}
use Rattle.mp_audit.proofs.leading.keeps_limits.Goals as goal

pub returns : goal.returns
returns c =
    subst (λ (x : AgentTask). slice_get x.acts c.args.action ≡ Some c.args.act.now → ActFits x.publics x.privates c.args.act.now) c.task.view_is
    (λ is. all_get (ActFits c.task.inside.publics c.task.inside.privates) c.task.inside.acts c.args.action c.args.act.now c.task.invariant.acts is) c.requires
