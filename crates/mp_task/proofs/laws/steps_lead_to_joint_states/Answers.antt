use Rattle.mp_task.proofs.JointStates.{start_is_joint, step_stays_joint, seen_start}
use Rattle.mp_task.proofs.laws.steps_lead_to_joint_states.Goals as goal

pub returns : goal.returns
returns c = record {
  start = start_is_joint;
  steps = step_stays_joint;
  seen = seen_start;
}
