use Rattle.std.proofs.Common.{◌++◌, length, map, ap, ◌∙◌, arith}
use Rattle.std.proofs.lemmas.List.{take_all}
use Rattle.mp_task.specs.AgentTask.{AgentTask}
use Rattle.mp_task.specs.declared.act.Act.{Act}
use Rattle.mp_task.specs.declared.act.Far.{Far}
use Rattle.mp_task.specs.Projected.{facts_of}
use Rattle.mp_relaxed.proofs.ProjectedLemmas.{of_operators}
use Rattle.mp_relaxed.proofs.relaxed.adds_of.Goals as goal

pub returns : goal.returns
returns c =
    let slice = ap length c.as_slice-part-items.ensures in
    let same = ap (λ (t : AgentTask). length t.far) c.task.view_is in
    c.loop-part.invariant
    ∙ ap (λ ps. map (λ (a : Act). facts_of c.args.task.now.publics a.add_pub a.add_priv) c.args.task.now.acts ++ map (λ (p : Far). p.add) ps) (take_all c.loop-part.part-index c.args.task.now.far (omega arith))
    ∙ of_operators (λ o. o.add) c.args.task.now
