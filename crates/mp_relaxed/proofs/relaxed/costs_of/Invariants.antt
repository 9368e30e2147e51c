use Rattle.std.proofs.Common.{◌≡◌, ◌++◌, take, map}
use Rattle.mp_task.specs.declared.act.Act.{Act}
use Rattle.mp_task.specs.declared.act.Far.{Far}
use Rattle.mp_relaxed.proofs.relaxed.costs_of.Given as goal

abbrev pub invariant-loop-act : goal.invariant-loop-act
invariant-loop-act l = l.costs.items ≡ map (λ (a : Act). a.cost) (take l.act-index l.task.acts)

abbrev pub invariant-loop-part : goal.invariant-loop-part
invariant-loop-part l =
    l.costs.items ≡ map (λ (a : Act). a.cost) l.task.acts ++ map (λ (p : Far). p.cost) (take l.part-index l.task.far)
