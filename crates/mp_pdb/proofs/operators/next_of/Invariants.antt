use Rattle.std.proofs.Common.{◌≡◌, None, take}
use Rattle.std.specs.List.{flat_map}
use Rattle.mp_estimates.specs.Estimates.{lesser}
use Rattle.mp_task.specs.declared.act.Act.{Act}
use Rattle.mp_task.specs.declared.act.Far.{Far}
use Rattle.mp_task.specs.Projected.{far_operator, own_operator}
use Rattle.mp_pdb.specs.Pattern.{least, missing_of}
use Rattle.mp_pdb.proofs.operators.next_of.Given as goal

abbrev pub invariant-loop-act : goal.invariant-loop-act
invariant-loop-act l =
    l.lowest ≡ lesser None (least (flat_map (λ (a : Act). missing_of l.pattern.facts (own_operator l.task.publics a)) (take l.act-index l.task.acts)))

abbrev pub invariant-loop-part : goal.invariant-loop-part
invariant-loop-part l =
    l.lowest
    ≡ lesser (least (flat_map (λ (a : Act). missing_of l.pattern.facts (own_operator l.task.publics a)) l.task.acts))
    (least (flat_map (λ (p : Far). missing_of l.pattern.facts (far_operator p)) (take l.part-index l.task.far)))
