-- For each plan there is a way that costs no more, and what is found has a witness for its cost, as long as it is explored.
use Rattle.std.proofs.Common.{List, length, None, refl, arith}
use Rattle.mp_task.specs.AgentTask.{AgentTask}
use Rattle.mp_task.specs.Agreement.{IsTeamMember}
use Rattle.mp_task.specs.Plan.{TaskStep, TaskSolves, joint_start, task_cost}
use Rattle.mp_task.proofs.Agreeing.{agree_numbered}
use Rattle.mp_order.proofs.InOrder.{in_order}
use Rattle.mp_reach.specs.Explored.{HasWitness}
use Rattle.mp_reach.specs.Found.{Found}
use Rattle.mp_reach.specs.LeadsOn.{HasWayWithin, Known, LeadsOn, IsGoal, IsRoot, IsTeamExplored}
use Rattle.mp_reach.proofs.TeamWays.{ordered_way}
use Rattle.mp_reach.proofs.Witnesses.{more, witness}

pub plan_way : (tasks : List AgentTask) (t : AgentTask) (plan : List TaskStep) → IsTeamMember tasks t → TaskSolves tasks plan → HasWayWithin tasks (task_cost tasks plan)
plan_way tasks t plan member solves =
    let it = in_order tasks (agree_numbered tasks member.agree) (length plan) (joint_start tasks) plan (omega arith) solves in
    let start = ordered_way tasks t member (joint_start tasks) it.steps it.ordered in
    record {
      first = record { agent = start.task.me; state = joint_start tasks };
      last = start.goes_on.end;
      cost = task_cost tasks it.steps;
      root = record { task = start.task; in_team = start.in_team; agent = refl; state = refl };
      way = start.goes_on.way;
      goal = start.goes_on.goal;
      within = it.cheaper;
    }

pub plan_witness : {I : Type 0} (tasks : List AgentTask) (t : AgentTask) (found : Found I Known) (plan : List TaskStep) → IsTeamMember tasks t → IsTeamExplored tasks None found → TaskSolves tasks plan → HasWitness (IsGoal tasks) found (task_cost tasks plan)
plan_witness tasks t found plan member x solves =
    let it = plan_way tasks t plan member solves in
    more (IsGoal tasks) found it.cost (task_cost tasks plan)
    (witness (LeadsOn tasks) (IsGoal tasks) (IsRoot tasks) found x it.first it.last it.cost it.root it.way it.goal)
    it.within
