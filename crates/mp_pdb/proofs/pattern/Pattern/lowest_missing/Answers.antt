use Rattle.std.proofs.Common.{◌+◌, ap, ◌∙◌, arith}
use Rattle.mp_pdb.specs.Masks.{SizedPattern}
use Rattle.mp_pdb.proofs.GrowthLemmas.{lowest_more}
use Rattle.mp_pdb.proofs.pattern.Pattern.lowest_missing.Goals as goal

pub overflow_add-offset : goal.overflow_add-offset
overflow_add-offset c =
    let small = c.self.invariant.small in
    let same_size = ap (λ (s : SizedPattern). s.size) c.self.view_is in
    let below = c.requires c.loop-k.k-index 0 c.loop-k-test.true in
    omega arith

pub loop-k-preserved : goal.loop-k-preserved
loop-k-preserved c =
    c.lowest_with-lowest.ensures
    ∙ lowest_more c.args.self.now.facts c.args.facts.now (λ k. c.args.offset + k) c.args.lowest c.loop-k.lowest c.loop-k.k-index c.loop-k-test.true c.loop-k.invariant
