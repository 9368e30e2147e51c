use Rattle.std.proofs.Common.{◌+◌, map, ap, ◌∙◌}
use Rattle.mp_pdb.specs.Pattern.{is_in}
use Rattle.mp_pdb.proofs.MaskLemmas.{map_zero, shows_same}
use Rattle.mp_pdb.proofs.pattern.Pattern.mask_of_publics.Goals as goal

pub returns : goal.returns
returns c =
    shows_same c.args.self.now.facts (is_in (map (λ k. 0 + k) c.as_slice.result.now)) (is_in c.args.facts.now) c.mask.result
    (λ x. ap (λ l. is_in l x) (map_zero c.as_slice.result.now ∙ c.as_slice.ensures.numbers)) c.mask.ensures
