-- Joint states: the start is one, steps lead to others, and what one agent sees of the start.
use Rattle.std.proofs.Common.{◌≡◌, ◌-◌, cond, List, map, get_or, Some, None, ap, ◌∙◌, subst, arith}
use Rattle.std.proofs.lemmas.List.{get_or-map, length-map, length-set}
use Rattle.std.proofs.lemmas.Option.{cond_some, option_and_then_some}
use Rattle.std.specs.FinSet as set
use Rattle.mp_sets.specs.Numbers.{Numbers}
use Rattle.mp_task.specs.AgentTask.{AgentTask}
use Rattle.mp_task.specs.Agreement.{IsTeamMember}
use Rattle.mp_task.specs.Plan.{JointState, IsJointState, TaskStep, act_of, applies, after_act, after_step, private_of, joint_start}
use Rattle.mp_task.specs.Projected.{projected_state}
use Rattle.mp_task.specs.Seen.{seen_state}
use Rattle.mp_task.proofs.Agreeing.{number_at, public_start-at}

pub start_is_joint : (tasks : List AgentTask) → IsJointState tasks (joint_start tasks)
start_is_joint tasks = length-map tasks (λ (t : AgentTask). set.from_list t.start_priv)

pub step_stays_joint : (tasks : List AgentTask) (s reached : JointState) (step : TaskStep) → IsJointState tasks s → after_step tasks s step ≡ Some reached → IsJointState tasks reached
step_stays_joint tasks s reached step joint ran =
    option_and_then_some (λ act. cond (applies act s.publics (private_of s step.agent)) (Some (after_act s step.agent act)) None) (act_of tasks step) reached ran (λ act is taken.
    let parts = cond_some (applies act s.publics (private_of s step.agent)) (after_act s step.agent act) reached taken in
    subst (IsJointState tasks) parts.1 (length-set s.privates (step.agent - 1) _ ∙ joint))

-- an agent sees of the joint start its own start
pub seen_start : (tasks : List AgentTask) (t : AgentTask) → IsTeamMember tasks t → seen_state t (joint_start tasks) ≡ projected_state t (set.from_list t.start_pub) (set.from_list t.start_priv)
seen_start tasks t member =
    let here = member.in_team in
    let number = number_at tasks member.agree.numbered here.0 t here.1 here.2 in
    let place : t.me - 1 ≡ here.0 = omega arith in
    let start : AgentTask → Numbers = λ u. set.from_list u.start_priv in
    let mine : private_of (joint_start tasks) t.me ≡ set.from_list t.start_priv =
    ap (λ k. get_or (map start tasks) k set.empty) place ∙ get_or-map start tasks here.0 t set.empty here.1 ∙ ap start here.2 in
    let shared = public_start-at tasks t here (λ u there. (member.agree.alike u t there here).start_pub) in
    (λ i. projected_state t (shared i) (mine i))
