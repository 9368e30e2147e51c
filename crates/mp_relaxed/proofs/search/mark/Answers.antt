use Rattle.std.proofs.Common.{rules, ◌∙◌}
use Rattle.mp_estimates.proofs.LoweringLemmas.{fallen_trans}
use Rattle.mp_relaxed.proofs.search.mark.Goals as goal

pub members-preserved : goal.members-preserved
members-preserved c = record {
  len = c.lower.ensures.len ∙ c.members.invariant.len;
  fallen = fallen_trans _ _ _ _ _ _ c.members.invariant.fallen c.in_ok-lower.ensures.fallen;
  zero = search rules;
  below = λ values zeros below. c.in_ok-lower.ensures.below values (zeros c.in-Some.x (c.in-Some.ensures.next.0) c.in-Some.ensures.some.member) (c.members.invariant.below values zeros below);
}
