use Rattle.std.proofs.Common.{◌≡◌, ◌++◌, take, map}
use Rattle.mp_task.specs.declared.act.Act.{Act}
use Rattle.mp_task.specs.declared.act.Far.{Far}
use Rattle.mp_task.specs.Projected.{facts_of}
use Rattle.mp_relaxed.proofs.relaxed.pres_of.Given as goal

abbrev pub invariant-loop-act : goal.invariant-loop-act
invariant-loop-act l =
    l.rows ≡ map (λ (a : Act). facts_of l.task.publics a.pre_pub a.pre_priv) (take l.act-index l.task.acts)

abbrev pub invariant-loop-part : goal.invariant-loop-part
invariant-loop-part l =
    l.rows ≡ map (λ (a : Act). facts_of l.task.publics a.pre_pub a.pre_priv) l.task.acts ++ map (λ (p : Far). p.pre) (take l.part-index l.task.far)
