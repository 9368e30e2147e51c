use Rattle.std.proofs.Common.{◌≤◌, IsTrue, below_more, ◌∙◌, arith}
use Rattle.mp_pdb.specs.Moves.{has_all}
use Rattle.mp_estimates.specs.Lowering.{number_at}
use Rattle.mp_estimates.proofs.LoweringLemmas.{fallen_trans}
use Rattle.mp_pdb.proofs.table.begin.Goals as goal

pub loop-mask-preserved : goal.loop-mask-preserved
loop-mask-preserved c =
    let long = c.loop-mask.invariant.len in
    let end = c.loop-mask.invariant.end in
    record {
      len = c.begin_at.ensures.len ∙ c.loop-mask.invariant.len;
      end = c.loop-mask.invariant.end;
      fallen = fallen_trans _ _ _ _ _ _ c.loop-mask.invariant.fallen c.in_ok-begin_at.ensures.fallen;
      goals =
          below_more (λ mask. IsTrue (has_all mask c.args.goal) → number_at c.begin_at.new.numbers.items mask ≤ 0) c.loop-mask.mask
          (λ mask lt ready. let old = c.loop-mask.invariant.goals mask lt ready in let fell = c.in_ok-begin_at.ensures.fallen.lower mask in omega arith)
          c.in_ok-begin_at.ensures.zero;
      below = λ values zeros start. c.in_ok-begin_at.ensures.below values (λ ready. zeros c.loop-mask.mask (omega arith) ready) (c.loop-mask.invariant.below values zeros start);
    }
