use Rattle.mp_task.proofs.Disagreeing.{missing_part, doubled_part, part_of_another, parts_rise}
use Rattle.mp_task.proofs.agreement.far_lists_are_exact.Goals as goal

pub returns : goal.returns
returns c = record {
  missing = missing_part;
  doubled = doubled_part;
  by_another = part_of_another;
  falling = parts_rise;
}
