-- When a verdict and an answer are right (MAD-A*, Nissim and Brafman 2014; A*, Hart, Nilsson and
-- Raphael 1968).
use Rattle.std.specs.Prelude.{◌≡◌, ℕ, ◌+◌, ◌≤◌, ◌<◌, true, List, length, Some, Contains}
use Rattle.mp_task.specs.AgentTask.{AgentTask}
use Rattle.mp_task.specs.Plan.{TaskSolves, TaskStep, task_cost}
use Rattle.mp_messages.specs.declared.history.Event.{Event}
use Rattle.mp_messages.specs.declared.message.Message.TheVariants as kinds
use Rattle.mp_messages.specs.declared.message.State.{State}
use Rattle.mp_store.specs.declared.entry.Entry.{Entry}
use Rattle.mp_store.specs.declared.entry.Mark.TheVariants.{Open}
use Rattle.mp_store.specs.Record.{f}
use Rattle.mp_search.specs.AgentState.{AgentState}
use Rattle.mp_snapshot.specs.declared.verdict.Verdict.{Verdict}
use Rattle.mp_snapshot.specs.declared.verdict.Verdict.TheVariants.{Proved, NoPlan, Spent, Continue}
use Rattle.mp_machine.specs.AgentRecord.{AgentRecord}
use Rattle.mp_world.specs.declared.answer.Answer.{Answer}
use Rattle.mp_world.specs.declared.answer.Answer.TheVariants as answers
use Rattle.mp_world.specs.Team.{Team}
use Rattle.mp_world.specs.World.{IsAgent, World, agent_at}
use Rattle.mp_team_snapshots.specs.CutWorlds.{HasCut}
use Rattle.mp_team_snapshots.specs.Messages.{messages}
use Rattle.mp_team_states.specs.Paths.{IsEntryAt}
use Rattle.mp_team_verdicts.specs.Shares.{IsOutcome}

-- ---- plans

-- a plan solves the tasks at a cost
pub record IsReachedAt (tasks : List AgentTask) (cost : ℕ) : Type 0 where
  pub plan : List TaskStep
  pub solves : TaskSolves tasks plan
  pub cost_is : task_cost tasks plan ≡ cost

-- each plan that solves costs at least so much
abbrev pub CostsAtLeast : List AgentTask → ℕ → Type 0
CostsAtLeast tasks cost = (plan : List TaskStep) → TaskSolves tasks plan → cost ≤ task_cost tasks plan

-- a cost is the least one of a plan that solves
pub record IsOptimal (tasks : List AgentTask) (cost : ℕ) : Type 0 where
  pub reached : IsReachedAt tasks cost
  pub least : CostsAtLeast tasks cost

-- no plan solves
abbrev pub IsUnsolvable : List AgentTask → Type 0
IsUnsolvable tasks = (plan : List TaskStep) → TaskSolves tasks plan → ⊥

-- ---- searches that are left undecided

-- an agent of a world has expanded so many entries
pub record HasExpanded (w : World) (agent expansions : ℕ) : Type 0 where
  pub who : AgentRecord
  pub there : agent_at w agent ≡ Some who
  pub expanded : who.search.expansions ≡ expansions

-- an agent has an open entry whose cost and estimate are this together
pub record HasOpen (w : World) (agent least : ℕ) : Type 0 where
  pub number : ℕ
  pub entry : Entry AgentState
  pub there : IsEntryAt w agent number entry
  pub is_open : entry.mark ≡ Open
  pub f_is : f entry ≡ least

-- No open entry of any agent and no state under way has a lesser sum of cost and estimate than this,
-- and each goal entry costs more. The states are those that the receivers read.
pub record IsLeast (w : World) (least : ℕ) : Type 0 where
  pub entries :
      (agent number : ℕ) (e : Entry AgentState)
      → IsEntryAt w agent number e → e.mark ≡ Open → least ≤ f e
  pub states :
      (from to : ℕ) (r : AgentRecord) (m : State)
      → IsAgent w from → agent_at w to ≡ Some r
      → Contains (messages r.task.publics w from to) (kinds.State m) → least ≤ m.g + m.h
  pub goals :
      (agent number : ℕ) (e : Entry AgentState)
      → IsEntryAt w agent number e → e.goal ≡ true → least < e.g

-- An agent is at its limit: it has expanded as many entries as it may, while an open entry of its own
-- is the least of all that is left to do, and no goal entry costs as little.
pub record IsAtLimit (limit : ℕ) (w : World) (agent : ℕ) : Type 0 where
  pub least : ℕ
  pub spent : HasExpanded w agent limit
  pub own : HasOpen w agent least
  pub is_least : IsLeast w least

module _
    (team : Team)
    (schedule : List Event)
    (w : World)
  where
    open team use {tasks, limit}

    -- A search is left undecided: in the world after the cut at a snapshot an agent is at its limit, it
    -- has expanded as many entries still, and a plan costs at least what the least entry there does.
    pub record IsUndecided (k agent : ℕ) : Type 0 where
      pub cut : HasCut team k schedule w
      pub at_limit : IsAtLimit limit cut.world agent
      pub spent : HasExpanded w agent limit
      pub least : CostsAtLeast tasks at_limit.least

    -- A verdict on a snapshot is right: a proved cost is the least one of a plan, there is no plan
    -- where it says so, and the search is left undecided where it says that an agent is spent. That the
    -- search goes on says nothing.
    abbrev pub IsRightVerdict : ℕ → Verdict → Type 0
    IsRightVerdict k (Proved agent cost) = IsOptimal tasks cost
    IsRightVerdict k NoPlan = IsUnsolvable tasks
    IsRightVerdict k (Spent agent) = IsUndecided k agent
    IsRightVerdict k Continue = Unit {0}

    -- the shares of the agents are a plan of so many steps that solves at a cost, and no plan costs less
    pub record IsBestOutcome (cost steps : ℕ) : Type 0 where
      pub outcome : IsOutcome tasks w cost
      pub steps_are : length outcome.plan ≡ steps
      pub least : CostsAtLeast tasks cost

    -- the search is left undecided at agent 1's last snapshot
    pub record IsLeftUndecided : Type 0 where
      pub first : AgentRecord
      pub there : agent_at w 1 ≡ Some first
      pub agent : ℕ
      pub undecided : IsUndecided first.snapshot.number agent

    -- An answer is right: a solution is a cheapest one, there is no plan where it says so, and the search
    -- is left undecided where it says so. It is not right that there is no answer.
    abbrev pub IsRightAnswer : Answer → Type 0
    IsRightAnswer answers.Nothing = ⊥
    IsRightAnswer (answers.Solved cost steps) = IsBestOutcome cost steps
    IsRightAnswer answers.Unsolvable = IsUnsolvable tasks
    IsRightAnswer answers.Undecided = IsLeftUndecided
