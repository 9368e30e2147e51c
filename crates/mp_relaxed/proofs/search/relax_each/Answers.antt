use Rattle.std.proofs.Common.{get_or, below_more, subst, ◌∙◌, arith}
use Rattle.std.proofs.lemmas.List.{get_or_default}
use Rattle.mp_relaxed.specs.Search.{IsServed}
use Rattle.mp_estimates.proofs.LoweringLemmas.{fallen_trans}
use Rattle.mp_relaxed.proofs.SearchLemmas.{served_kept}
use Rattle.mp_relaxed.proofs.search.relax_each.Goals as goal

pub loop-k-preserved : goal.loop-k-preserved
loop-k-preserved c = record {
  len = c.relax_now.ensures.len ∙ c.loop-k.invariant.len;
  fallen = fallen_trans _ _ _ _ _ _ c.loop-k.invariant.fallen c.in_ok-relax_now.ensures.fallen;
  served =
      below_more (λ j. IsServed c.args.problem.now.operators c.relax_now.new.numbers.items c.relax_now.new.queue (get_or c.args.operators.now j 0)) c.loop-k.k-index
      (λ j h. served_kept c.args.problem.now.operators c.loop-k.numbers.items c.loop-k.queue c.relax_now.new.numbers.items c.relax_now.new.queue (get_or c.args.operators.now j 0) c.in_ok-relax_now.ensures.fallen (c.loop-k.invariant.served j h))
      c.in_ok-relax_now.ensures.served;
  below = λ values low below. c.in_ok-relax_now.ensures.below values low (c.loop-k.invariant.below values low below);
}

pub returns-clause-served : goal.returns-clause-served
returns-clause-served c = λ k user.
    subst (IsServed c.args.problem.now.operators c.loop-k.numbers.items c.loop-k.queue)
    (get_or_default c.args.operators.now user.0 0 k user.1 ∙ user.2)
    (c.loop-k.invariant.served user.0 (omega (arith, user.1)))
