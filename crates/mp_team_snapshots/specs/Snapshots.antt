-- What is so of snapshots in every world that a legal schedule leads to (Chandy and Lamport 1985).
-- All agents take part in one snapshot after another: agent 1 begins the next one when all have
-- reported on the last.
use Rattle.std.specs.Prelude.{◌≡◌, ◌≢◌, ◌⊎◌, ◌+◌, ◌-◌, ◌==◌, ◌&&◌, not, nat_lt, ℕ, Bool, true, List, [], ◌∷◌, length, map, take, Some, if◌then◌else◌, slice_index_or}
use Rattle.mp_snapshot.specs.Notes.{Notes}
use Rattle.mp_snapshot.specs.Rules.{has, is_whole, nothing, own}
use Rattle.mp_machine.specs.AgentRecord.{AgentRecord}
use Rattle.mp_world.specs.World.{World, agent_at}
use Rattle.mp_team_snapshots.specs.Messages.{ends, markers, reports}

-- Notes are those of an agent of a team of so many: they have a place for each of the 16 agents
-- that there may be, and the agent's own findings have the number of its last snapshot.
pub record AreNotesOf (size agent : ℕ) (s : Notes) : Type 0 where
  pub me : s.me ≡ agent
  pub agents : s.agents ≡ size
  pub marked : length s.marked ≡ 16
  pub reported : length s.reported ≡ 16
  pub found : length s.found ≡ 16
  pub own_number : (own s).number ≡ s.number

-- an agent has begun the snapshot that agent 1 began last
abbrev pub has_begun : AgentRecord → AgentRecord → Bool
has_begun first r = nat_lt 0 first.snapshot.number && (r.snapshot.number == first.snapshot.number)

-- an agent has begun it and has taken the marker of another one
abbrev pub has_taken_marker : AgentRecord → AgentRecord → ℕ → Bool
has_taken_marker first r from = has_begun first r && has r.snapshot.marked from

-- an agent has begun it and awaits no marker
abbrev pub is_done : AgentRecord → AgentRecord → Bool
is_done first r = has_begun first r && is_whole r.snapshot

-- agent 1 has the report of an agent
abbrev pub has_report : AgentRecord → ℕ → Bool
has_report first agent = nat_lt 0 first.snapshot.number && has first.snapshot.reported agent

-- a list of an item alone, where it is due
abbrev pub one_if_due : {A : Type 0} → Bool → A → List A
one_if_due due x = if due then x ∷ [] else []

-- Of an agent: its last snapshot is that of agent 1 or the one before, on which it awaits no
-- marker.
pub record KeepsUp (first r : AgentRecord) : Type 0 where
  pub number :
      (r.snapshot.number ≡ first.snapshot.number)
      ⊎ ((r.snapshot.number + 1 ≡ first.snapshot.number)
      × ((r.snapshot.number ≡ 0) ⊎ (is_whole r.snapshot ≡ true)))
  pub itself : has_begun first r ≡ true → has r.snapshot.marked r.task.me ≡ true

-- A marker is under way from one agent to another exactly where the one has begun agent 1's last
-- snapshot and the other has not taken that marker.
abbrev pub IsMarkerUnderWay : ℕ → World → AgentRecord → AgentRecord → AgentRecord → Type 0
IsMarkerUnderWay publics w first from to =
    markers publics w from.task.me to.task.me
    ≡ one_if_due (has_begun first from && not (has_taken_marker first to from.task.me))
    first.snapshot.number

-- A report is under way from an agent to agent 1 exactly where the agent is done with the last
-- snapshot and agent 1 does not have its report; it is what the agent found.
abbrev pub IsReportUnderWay : ℕ → World → AgentRecord → AgentRecord → Type 0
IsReportUnderWay publics w first r =
    reports publics w r.task.me 1
    ≡ one_if_due (is_done first r && not (has_report first r.task.me)) (own r.snapshot)

-- the report that agent 1 has is what the agent found
pub record IsReported (first r : AgentRecord) : Type 0 where
  pub done : is_done first r ≡ true
  pub found : slice_index_or first.snapshot.found (r.task.me - 1) nothing ≡ own r.snapshot

-- two different agents of the world, by their numbers
pub record AreTwo (w : World) (a b : AgentRecord) : Type 0 where
  pub one : agent_at w a.task.me ≡ Some a
  pub other : agent_at w b.task.me ≡ Some b
  pub different : a.task.me ≢ b.task.me

-- All of this holds in a world.
pub record AreSnapshotsSound (publics : ℕ) (w : World) : Type 0 where
  pub first : AgentRecord
  pub first_there : agent_at w 1 ≡ Some first
  pub first_number : first.task.me ≡ 1
  pub notes :
      (r : AgentRecord)
      → agent_at w r.task.me ≡ Some r
      → AreNotesOf (length w.agents) r.task.me r.snapshot
  pub keeps_up : (r : AgentRecord) → agent_at w r.task.me ≡ Some r → KeepsUp first r
  -- an agent whose marker was taken has begun the snapshot
  pub sent : (a b : AgentRecord) → AreTwo w a b
      → has_taken_marker first b a.task.me ≡ true → has_begun first a ≡ true
  pub marker : (a b : AgentRecord) → AreTwo w a b → IsMarkerUnderWay publics w first a b
  pub report : (r : AgentRecord) → AreTwo w first r → IsReportUnderWay publics w first r
  pub reported : (r : AgentRecord) → AreTwo w first r
      → has_report first r.task.me ≡ true → IsReported first r

-- The snapshot that agent 1 began last is over: all agents have begun it and await no marker of it,
-- nothing of it is under way, and agent 1 has what each agent found, agent by agent.
pub record IsSnapshotOver (publics : ℕ) (w : World) (first : AgentRecord) : Type 0 where
  pub begun : (r : AgentRecord) → agent_at w r.task.me ≡ Some r → has_begun first r ≡ true
  pub whole : (r : AgentRecord) → agent_at w r.task.me ≡ Some r → is_whole r.snapshot ≡ true
  pub no_marker : (a b : AgentRecord) → AreTwo w a b → markers publics w a.task.me b.task.me ≡ []
  pub no_report : (r : AgentRecord) → AreTwo w first r → reports publics w r.task.me 1 ≡ []
  pub found : take (length w.agents) first.snapshot.found ≡ map (λ r. own r.snapshot) w.agents

-- No end is under way from any agent but agent 1.
pub record AreEndsOfFirst (publics : ℕ) (w : World) : Type 0 where
  pub none :
      (a b : AgentRecord)
      → AreTwo w a b
      → a.task.me ≢ 1
      → ends publics w a.task.me b.task.me ≡ []
