use Rattle.mp_estimates.specs.Laws.Order.{lesser_left, lesser_right, lesser_both, greater_left, greater_right, greater_both}
use Rattle.mp_estimates.proofs.laws.lesser_and_greater_are_bounds.Goals as goal

pub returns : goal.returns
returns c = record {
  lesser_left = lesser_left;
  lesser_right = lesser_right;
  lesser_both = lesser_both;
  greater_left = greater_left;
  greater_right = greater_right;
  greater_both = greater_both;
}
