use Rattle.mp_split.proofs.Basics.{◌≡◌, ap, sym, subst, ◌∙◌, IfOk-weaker, of_others, task_from, task_with}
use Rattle.mp_task.specs.AgentTask.{AgentTask}
use Rattle.mp_task.specs.Limits.{IsWithinLimits}
use Rattle.mp_split.proofs.OneTask.{put_together, within_limits}
use Rattle.mp_split.proofs.task.make_task.Goals as goal

pub task_from_parts-requires-clause-within : goal.task_from_parts-requires-clause-within
task_from_parts-requires-clause-within c =
    let g = record c.args.ground.now { acts = c.args.acts } in
    let far = c.in_ok-far.ensures ∙ ap (of_others g.me) c.as_slice.ensures in
    subst IsWithinLimits
    (put_together c.args.table.now c.args.common.now g c.len.result c.in_ok-acts.acts c.in_ok-far.far c.len.ensures c.in_ok-acts.ensures far)
    (within_limits c.args.table.now c.args.common.now g c.requires)

pub returns : goal.returns
returns c =
    let g = record c.args.ground.now { acts = c.args.acts } in
    let far = c.in_ok-far.ensures ∙ ap (of_others g.me) c.as_slice.ensures in
    let same = put_together c.args.table.now c.args.common.now g c.len.result c.in_ok-acts.acts c.in_ok-far.far c.len.ensures c.in_ok-acts.ensures far in
    IfOk-weaker c.task_from_parts.result (λ (t : AgentTask). t ≡ task_from c.len.result c.args.common.now g c.in_ok-acts.acts c.in_ok-far.far)
    (λ (t : AgentTask). t ≡ task_with c.args.table.now c.args.common.now g) (λ t is. is ∙ sym same) c.task_from_parts.ensures
