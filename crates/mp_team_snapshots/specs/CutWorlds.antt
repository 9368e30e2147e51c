-- The world after a schedule beside the world after its cut (Chandy and Lamport 1985).
use Rattle.std.specs.Prelude.{◌≡◌, ◌≤◌, ◌<◌, ◌&&◌, ℕ, true, false, List, [], length, map, Some}
use Rattle.mp_messages.specs.declared.history.Event.{Event}
use Rattle.mp_messages.specs.declared.message.Findings.{Findings}
use Rattle.mp_messages.specs.declared.message.Message.TheVariants.{Marker}
use Rattle.mp_messages.specs.Spelling.{spelling}
use Rattle.mp_snapshot.specs.Minima.{least_of}
use Rattle.mp_snapshot.specs.Rules.{has, own}
use Rattle.mp_machine.specs.AgentRecord.{AgentRecord}
use Rattle.mp_machine.specs.Outgoing.{others}
use Rattle.mp_machine.specs.Snapshots.{findings, goal_entry}
use Rattle.mp_team_snapshots.specs.Snapshots.{AreTwo}
use Rattle.mp_team_states.specs.Further.{HaveGrown}
use Rattle.mp_team_states.specs.Growing.{HasGrown}
use Rattle.mp_world.specs.Events.{run}
use Rattle.mp_world.specs.Team.{Team}
use Rattle.mp_world.specs.World.{World, agent_at, under_way}
use Rattle.mp_team_snapshots.specs.Cut.{cut_schedule, has_recorded}
use Rattle.mp_team_snapshots.specs.CutMail.{AreCut}
use Rattle.mp_team_snapshots.specs.Found.{least_state, messages_in}

-- findings are alike but for their numbers and for the states under way
pub record AreAlike (f g : Findings) : Type 0 where
  pub least : f.least ≡ g.least
  pub goal : f.goal ≡ g.goal
  pub spent : f.spent ≡ g.spent

-- An agent noted how many entries it had when it was like this, which goal entry, and what it had
-- found.
pub record HasNoted (then now : AgentRecord) : Type 0 where
  pub noted : now.noted ≡ length then.search.kept.entries
  pub goal : now.goal ≡ goal_entry then.search.kept
  pub found : AreAlike (own now.snapshot) (findings then)

-- An agent as it was when it recorded a snapshot, and as it is now: what it kept and sent has grown,
-- and as long as that snapshot is its last one, it notes what it had then.
pub record IsSinceRecording (k : ℕ) (then now : AgentRecord) : Type 0 where
  pub task : now.task ≡ then.task
  pub limit : now.limit ≡ then.limit
  pub before : then.snapshot.number < k
  pub grown : HasGrown then.search.kept now.search.kept
  pub last : now.snapshot.number ≡ k → HasNoted then now

-- The agents after a schedule and after its cut. One that has not recorded is the same in both, and
-- one that has was, when it recorded, as it is after the cut.
pub record AreAgentsCut (k : ℕ) (w c : World) : Type 0 where
  pub unrecorded :
      (agent : ℕ) (r : AgentRecord) → agent_at w agent ≡ Some r
      → has_recorded k r ≡ false → agent_at c agent ≡ Some r
  pub recorded :
      (agent : ℕ) (now : AgentRecord) → agent_at w agent ≡ Some now
      → has_recorded k now ≡ true
      → (then : AgentRecord) × (agent_at c agent ≡ Some then) × IsSinceRecording k then now

-- The messages under way after a schedule and after its cut. The counted ones are those that an
-- agent has taken from another one since it recorded, up to that one's marker: none where it has not
-- recorded. The least of the states among them is that of the agent's own findings.
pub record AreMessagesCut (k : ℕ) (w c : World) : Type 0 where
  pub counted : ℕ → ℕ → List (List ℕ)
  pub none :
      (from : ℕ) (r : AgentRecord) → agent_at w r.task.me ≡ Some r → has_recorded k r ≡ false
      → counted from r.task.me ≡ []
  pub mail :
      (a b : AgentRecord)
      → AreTwo w a b
      → AreCut (spelling (Marker k)) (has_recorded k a)
      (has_recorded k b && has b.snapshot.marked a.task.me)
      (counted a.task.me b.task.me)
      (under_way w a.task.me b.task.me)
      (under_way c a.task.me b.task.me)
  pub least :
      (r : AgentRecord) → agent_at w r.task.me ≡ Some r → has_recorded k r ≡ true
      → (own r.snapshot).under_way
      ≡ least_of
      (map (λ from. least_state (messages_in r.task.agents r.task.publics (counted from r.task.me)))
      (others r.task.me r.task.agents))

-- The cut of a schedule is legal, and this is the world after it; what each agent keeps and has sent
-- there has grown since. Of the messages is told as long as agent 1 has begun no later snapshot.
pub record HasCut
    (team : Team)
    (k : ℕ)
    (schedule : List Event)
    (w : World)
    : Type 0 where
  pub world : World
  pub runs : run team (cut_schedule team k schedule) ≡ Some world
  pub agents : AreAgentsCut k w world
  pub grown : HaveGrown world w
  pub messages :
      (first : AgentRecord) → agent_at w 1 ≡ Some first → first.snapshot.number ≤ k
      → AreMessagesCut k w world
