use Rattle.std.proofs.Common.{◌+◌, ◌||◌, ◌++◌, map, ◌∙◌}
use Rattle.mp_task.specs.Projected.{facts_of}
use Rattle.mp_pdb.specs.Pattern.{is_in}
use Rattle.mp_pdb.proofs.MaskLemmas.{is_in_both, shows_or, shows_same}
use Rattle.mp_pdb.proofs.pattern.Pattern.mask_of.Goals as goal

pub returns : goal.returns
returns c =
    let pattern = c.args.self.now.facts in
    let publics = c.args.publics in
    let xs = c.as_slice.result.now in
    let ys = c.as_slice-2.result.now in
    shows_same pattern (λ x. is_in (map (λ k. 0 + k) xs) x || is_in (map (λ k. publics + k) ys) x) (is_in (facts_of publics c.args.pub_facts.now c.args.priv_facts.now)) _
    (λ x. is_in_both publics x xs ys ∙ (λ j. is_in (c.as_slice.ensures.numbers j ++ map (λ k. publics + k) (c.as_slice-2.ensures.numbers j)) x))
    (shows_or pattern (is_in (map (λ k. 0 + k) xs)) (is_in (map (λ k. publics + k) ys)) c.mask.result c.mask-2.result c.mask.ensures c.mask-2.ensures)
