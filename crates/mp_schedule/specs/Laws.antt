-- The laws of every run of a team.
use Rattle.std.specs.Prelude.{◌≡◌, ◌≤◌, ℕ, true, List, Some, None}
use Rattle.mp_task.specs.Plan.{TaskSolves, TaskStep, task_cost}
use Rattle.mp_snapshot.specs.declared.verdict.Verdict.{Verdict}
use Rattle.mp_reach.specs.LeadsOn.{IsTeamExplored}
use Rattle.mp_machine.specs.AgentRecord.{AgentRecord, given_verdict}
use Rattle.mp_world.specs.Answers.{answer_of}
use Rattle.mp_world.specs.Logs.{IsLog}
use Rattle.mp_world.specs.RoundRobin.{is_over}
use Rattle.mp_world.specs.Values.{Values}
use Rattle.mp_world.specs.World.{agent_at}
use Rattle.mp_team_states.specs.Paths.{AreReached}
use Rattle.mp_team_states.specs.Sound.{AreStatesSound}
use Rattle.mp_team_states.specs.Estimates.{AreEstimatesBounds}
use Rattle.mp_team_states.specs.TeamFound.{found_of}
use Rattle.mp_team_states.specs.Witness.{HasWitnessIn}
use Rattle.mp_team_snapshots.specs.CutWorlds.{HasCut}
use Rattle.mp_team_verdicts.specs.Right.{IsRightAnswer, IsRightVerdict}
use Rattle.mp_schedule.specs.TeamRun.{TeamRun, team_in}

pub record KeepsLaws (value : Values) (r : TeamRun) : Type 0 where
  -- the log is one of the team: each agent has done in it what its task leads it to
  pub is_log : IsLog (team_in value r) r.log
  -- what the agents keep and send are joint states of the team
  pub states : AreStatesSound r.tasks r.world
  -- each entry was reached by a path that applies from the joint start and costs what the entry does
  pub paths : AreReached r.tasks r.world
  -- an entry's estimate is at most what is still to be paid from its joint state
  pub estimates : AreEstimatesBounds r.tasks r.world
  -- what the state of an expanded entry leads to has an entry or is under way at no more cost, or it leads to no goal
  pub explored : IsTeamExplored r.tasks None (found_of r.world)
  -- for each plan that solves, an open entry, a state under way or a goal entry has at most its cost
  pub witness :
      (plan : List TaskStep) → TaskSolves r.tasks plan
      → HasWitnessIn r.world (task_cost r.tasks plan)
  -- the cut of the schedule at a snapshot is legal, and each agent that recorded the snapshot was then as it is after
  -- the cut
  pub cuts : (k : ℕ) → 1 ≤ k → HasCut (team_in value r) k r.schedule r.world
  -- agent 1's verdict is right
  pub verdict :
      (first : AgentRecord) (verdict : Verdict)
      → agent_at r.world 1 ≡ Some first → given_verdict first ≡ Some verdict
      → IsRightVerdict (team_in value r) r.schedule r.world first.snapshot.number verdict
  -- once all agents have ended, the team answers, and its answer is right
  pub answer :
      is_over r.world ≡ true
      → IsRightAnswer (team_in value r) r.schedule r.world (answer_of r.world)
