-- The shares of all agents together are a plan, once a search is over.
use Rattle.std.specs.Prelude.{◌≡◌, ◌==◌, ℕ, Bool, List, length, map, filter, All, Some}
use Rattle.std.specs.List.{enumerate_from}
use Rattle.mp_task.specs.AgentTask.{AgentTask}
use Rattle.mp_task.specs.Plan.{TaskSolves, TaskStep, task_cost}
use Rattle.mp_trail.specs.declared.steps.Timed.{Timed}
use Rattle.mp_machine.specs.declared.event.Ending.TheVariants.{Solved}
use Rattle.mp_machine.specs.AgentRecord.{AgentRecord}
use Rattle.mp_world.specs.declared.answer.Answer.TheVariants as answers
use Rattle.mp_world.specs.Answers.{answer_of}
use Rattle.mp_world.specs.World.{IsAgent, World, agent_at}

-- whether a step, with its place on a plan, is an agent's own
abbrev pub is_own : ℕ → ℕ × TaskStep → Bool
is_own agent x = x.1.agent == agent

-- the action of a step at its time, which is the step's place
abbrev pub as_timed : ℕ × TaskStep → Timed
as_timed x = record { time = x.0; action = x.1.action }

-- an agent's own steps of a plan, whose first step has the time 1
abbrev pub own_steps : ℕ → List TaskStep → List Timed
own_steps agent plan = map as_timed (filter (is_own agent) (enumerate_from 1 plan))

-- All agents have ended with the plan's length, each has its own steps of the plan, and each step is
-- one of an agent of the team. So each time from 1 to the length is that of one agent's step.
pub record AreShares (w : World) (plan : List TaskStep) : Type 0 where
  pub ended : (agent : ℕ) (r : AgentRecord) → agent_at w agent ≡ Some r → r.ending ≡ Solved (length plan)
  pub own : (agent : ℕ) (r : AgentRecord) → agent_at w agent ≡ Some r → r.share ≡ own_steps agent plan
  pub agents : All (λ step. IsAgent w step.agent) plan

-- What comes of a search that is over with a proved plan: the shares of all agents are the plan, it
-- solves the team's tasks at a cost, and that is what agent 1 answers.
pub record IsOutcome (tasks : List AgentTask) (w : World) (cost : ℕ) : Type 0 where
  pub plan : List TaskStep
  pub shares : AreShares w plan
  pub solves : TaskSolves tasks plan
  pub cost_is : task_cost tasks plan ≡ cost
  pub answer : answer_of w ≡ answers.Solved cost (length plan)
