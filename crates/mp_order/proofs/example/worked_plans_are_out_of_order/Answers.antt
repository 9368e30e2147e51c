use Rattle.mp_order.proofs.OrderedExample.{closing_is_ordered, falling_solves, longer_solves}
use Rattle.mp_order.proofs.UnorderedExamples.{unordered_is_not, falling_is_not, longer_is_not}
use Rattle.mp_order.proofs.example.worked_plans_are_out_of_order.Goals as goal

pub returns : goal.returns
returns c = record {
  before_a_block = unordered_is_not;
  closing = closing_is_ordered;
  falling_solves = falling_solves;
  falling = falling_is_not;
  longer_solves = longer_solves;
  longer = longer_is_not;
}
