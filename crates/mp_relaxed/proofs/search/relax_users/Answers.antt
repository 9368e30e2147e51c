use Rattle.std.proofs.Common.{get_or, below_more, subst, ◌∙◌, arith}
use Rattle.std.proofs.lemmas.List.{get_or_default}
use Rattle.mp_relaxed.specs.Search.{IsServed}
use Rattle.mp_estimates.proofs.LoweringLemmas.{fallen_trans}
use Rattle.mp_relaxed.proofs.AgainLemmas.{user_needs}
use Rattle.mp_relaxed.proofs.SearchLemmas.{served_kept}
use Rattle.mp_relaxed.proofs.search.relax_users.Goals as goal

pub loop-k-preserved : goal.loop-k-preserved
loop-k-preserved c = record {
  len = c.relax_user.ensures.len ∙ c.loop-k.invariant.len;
  fallen = fallen_trans _ _ _ _ _ _ c.loop-k.invariant.fallen c.in_ok-relax_user.ensures.fallen;
  served =
      below_more (λ j. IsServed c.args.problem.now.operators c.relax_user.new.numbers.items c.relax_user.new.queue (get_or c.args.users.now j 0)) c.loop-k.k-index
      (λ j h. served_kept c.args.problem.now.operators c.loop-k.numbers.items c.loop-k.queue c.relax_user.new.numbers.items c.relax_user.new.queue (get_or c.args.users.now j 0) c.in_ok-relax_user.ensures.fallen (c.loop-k.invariant.served j h))
      c.in_ok-relax_user.ensures.served;
  below = λ values low below. c.in_ok-relax_user.ensures.below values low (c.loop-k.invariant.below values low below);
}

pub returns-clause-served : goal.returns-clause-served
returns-clause-served c = λ k user.
    subst (IsServed c.args.problem.now.operators c.loop-k.numbers.items c.loop-k.queue)
    (get_or_default c.args.users.now user.0 0 k user.1 ∙ user.2)
    (c.loop-k.invariant.served user.0 (omega (arith, user.1)))

pub relax_user-requires-clause-precondition : goal.relax_user-requires-clause-precondition
relax_user-requires-clause-precondition c =
    user_needs c.args.problem.now.operators c.args.x c.args.users.now c.loop-k.k-index c.requires.users (omega arith)
    (c.requires.operators c.loop-k.k-index 0 (omega arith))
