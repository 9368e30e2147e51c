use Rattle.std.proofs.Common.{length, arith}
use Rattle.mp_task.specs.Plan.{joint_start}
use Rattle.mp_order.proofs.InOrder.{in_order}
use Rattle.mp_order.proofs.laws.plans_can_be_put_in_order.Goals as goal

pub returns : goal.returns
returns c = record {
  from_a_state = λ tasks s plan agree solves. let found = in_order tasks agree (length plan) s plan (omega arith) solves in (found.steps, found.ordered, found.cheaper);
  from_the_start = λ tasks plan agree solves. let found = in_order tasks agree (length plan) (joint_start tasks) plan (omega arith) solves in (found.steps, found.ordered, found.cheaper);
}
