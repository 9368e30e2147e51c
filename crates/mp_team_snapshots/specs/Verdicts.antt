-- The verdict of agent 1 beside the world after the cut (MAD-A*, Nissim and Brafman 2014).
use Rattle.std.specs.Prelude.{◌≡◌, ℕ, true, List, Some, slice_get}
use Rattle.mp_messages.specs.declared.history.Event.{Event}
use Rattle.mp_snapshot.specs.Rules.{own}
use Rattle.mp_snapshot.specs.declared.verdict.Verdict.{Verdict}
use Rattle.mp_snapshot.specs.declared.verdict.Verdict.TheVariants.{Proved}
use Rattle.mp_store.specs.declared.entry.Entry.{Entry}
use Rattle.mp_store.specs.Minima.{least_goal}
use Rattle.mp_search.specs.AgentState.{AgentState}
use Rattle.mp_machine.specs.AgentRecord.{AgentRecord}
use Rattle.mp_machine.specs.Snapshots.{goal_entry}
use Rattle.mp_world.specs.Team.{Team}
use Rattle.mp_world.specs.World.{World, agent_at}
use Rattle.mp_team_snapshots.specs.CutWorlds.{HasCut, IsSinceRecording}
use Rattle.mp_team_snapshots.specs.Found.{findings_in, numbered, verdict_in}

-- An agent was, when it recorded, as it is after the cut, and it noted what it has found there: its
-- findings have the number of the snapshot, and with the states under way they are those after the
-- cut.
pub record HasFoundThere (k : ℕ) (w c : World) (now : AgentRecord) : Type 0 where
  pub then : AgentRecord
  pub there : agent_at c now.task.me ≡ Some then
  pub since : IsSinceRecording k then now
  pub number : now.snapshot.number ≡ k
  pub found : own now.snapshot ≡ numbered k (findings_in c then)

-- An agent has after the cut a goal entry of a cost, the first one of the least cost, and that is the
-- one that it noted.
pub record HasProvedGoal (k : ℕ) (w c : World) (agent cost : ℕ) : Type 0 where
  pub now : AgentRecord
  pub there : agent_at w agent ≡ Some now
  pub then : AgentRecord
  pub there_then : agent_at c agent ≡ Some then
  pub since : IsSinceRecording k then now
  pub number : ℕ
  pub least : least_goal then.search.kept ≡ Some (cost, number)
  pub entry : Entry AgentState
  pub is_entry : slice_get then.search.kept.entries number ≡ Some entry
  pub goal : entry.goal ≡ true
  pub cost_is : entry.g ≡ cost
  pub noted : now.goal ≡ goal_entry then.search.kept

-- The verdict of agent 1 on a snapshot is that of the rule on the world after the cut: each agent
-- noted what it has found there, and an agent that is named for a proved plan has a goal entry of
-- its cost there.
pub record IsVerdictOn (k : ℕ) (w c : World) (verdict : Verdict) : Type 0 where
  pub found : (now : AgentRecord) → agent_at w now.task.me ≡ Some now → HasFoundThere k w c now
  pub rule : verdict_in c ≡ verdict
  pub proved : (agent cost : ℕ) → verdict ≡ Proved agent cost → HasProvedGoal k w c agent cost

-- The cut of a schedule at a snapshot is legal, and the verdict is that on the world after it.
pub record HasVerdictWorld
    (team : Team)
    (k : ℕ)
    (schedule : List Event)
    (w : World)
    (verdict : Verdict)
    : Type 0 where
  pub cut : HasCut team k schedule w
  pub verdict_on : IsVerdictOn k w cut.world verdict
