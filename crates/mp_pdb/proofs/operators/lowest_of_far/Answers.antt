use Rattle.std.proofs.Common.{ap, ◌∙◌}
use Rattle.std.proofs.lemmas.Bool.{eq-eqb, ne_eqb}
use Rattle.mp_estimates.specs.Estimates.{lesser}
use Rattle.mp_task.specs.Projected.{far_operator}
use Rattle.mp_pdb.specs.Pattern.{least, missing_among}
use Rattle.mp_pdb.proofs.GrowthLemmas.{none_missing, some_missing}
use Rattle.mp_pdb.proofs.MaskLemmas.{map_zero}
use Rattle.mp_pdb.proofs.operators.lowest_of_far.Goals as goal

pub returns-then-mask_of_publics-eq0 : goal.returns-then-mask_of_publics-eq0
returns-then-mask_of_publics-eq0 c =
    none_missing c.args.pattern.now.facts (far_operator c.args.part.now) c.mask_of_publics.result c.args.lowest c.mask_of_publics.ensures (eq-eqb c.mask_of_publics.result 0 c.if-mask_of_publics-eq0.true)

pub returns : goal.returns
returns c =
    let pattern = c.args.pattern.now.facts in
    c.lowest_missing.ensures
    ∙ ap (λ l. lesser c.args.lowest (least (missing_among pattern l))) (map_zero c.as_slice.result.now ∙ c.as_slice.ensures.numbers)
    ∙ some_missing pattern (far_operator c.args.part.now) c.mask_of_publics.result c.args.lowest c.mask_of_publics.ensures (ne_eqb c.mask_of_publics.result 0 c.if-mask_of_publics-eq0.false)
