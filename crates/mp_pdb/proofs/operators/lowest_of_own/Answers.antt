use Rattle.std.proofs.Common.{◌+◌, ◌++◌, map, ap, ◌∙◌}
use Rattle.std.proofs.lemmas.Bool.{eq-eqb, ne_eqb}
use Rattle.mp_estimates.specs.Estimates.{lesser}
use Rattle.mp_task.specs.Projected.{own_operator}
use Rattle.mp_pdb.specs.Pattern.{least, missing_among}
use Rattle.mp_pdb.proofs.GrowthLemmas.{both_missing, none_missing, some_missing}
use Rattle.mp_pdb.proofs.operators.lowest_of_own.Goals as goal

pub returns-then-mask_of-eq0 : goal.returns-then-mask_of-eq0
returns-then-mask_of-eq0 c =
    none_missing c.args.pattern.now.facts (own_operator c.args.publics c.args.act.now) c.mask_of.result c.args.lowest c.mask_of.ensures (eq-eqb c.mask_of.result 0 c.if-mask_of-eq0.true)

pub returns : goal.returns
returns c =
    let pattern = c.args.pattern.now.facts in
    let publics = c.args.publics in
    let xs = c.as_slice.result.now in
    let ys = c.as_slice-2.result.now in
    c.lowest_missing.ensures
    ∙ ap (λ o. lesser o (least (missing_among pattern (map (λ k. publics + k) ys)))) c.lowest_missing-lowest.ensures
    ∙ both_missing pattern publics xs ys c.args.lowest
    ∙ (λ j. lesser c.args.lowest (least (missing_among pattern (c.as_slice.ensures.numbers j ++ map (λ k. publics + k) (c.as_slice-2.ensures.numbers j)))))
    ∙ some_missing pattern (own_operator publics c.args.act.now) c.mask_of.result c.args.lowest c.mask_of.ensures (ne_eqb c.mask_of.result 0 c.if-mask_of-eq0.false)
