use Rattle.std.proofs.Common.{ap, ◌∙◌, sym, arith, ext_get_or}
use Rattle.std.specs.Ordering.{nat_cmp}
use Rattle.std.specs.Simd.Lanes.{number_l}
use Rattle.mp_sets.proofs.DigitLemmas.{number_l-cmp, nat_cmp-itself}
use Rattle.mp_sets.proofs.words.compare.Goals as goal

pub returns-then-words-at : goal.returns-then-words-at
returns-then-words-at c =
    number_l-cmp c.args.words.now c.args.others.now _ c.cmp.result c.requires (λ k. (c.type_inv.words k).fits) (λ k. (c.type_inv.others k).fits) (λ k h. c.loop-at.invariant.1 k (omega arith)) c.if-words-at.true c.cmp.ensures

pub returns : goal.returns
returns c =
    let same = ext_get_or 0 c.args.words.now c.args.others.now c.requires (λ k h. c.loop-at.invariant.1 k (omega (arith, c.loop-at-test.false))) in
    sym (nat_cmp-itself (number_l _ c.args.words.now)) ∙ ap (λ ys. nat_cmp (number_l _ c.args.words.now) (number_l _ ys)) same
