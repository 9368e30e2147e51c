-- How a search ends, in every world that a legal schedule leads to: agent 1's verdict, and a proved
-- plan that is walked back over the agents (MAD-A*, Nissim and Brafman 2014).
use Rattle.std.specs.Prelude.{◌≡◌, ◌≢◌, ◌⊎◌, ◌==◌, ◌&&◌, ℕ, Bool, true, false, List, [], ◌∷◌, ◌++◌, length, slice_get, Option, Some, None, filter, if◌then◌else◌}
use Rattle.mp_task.specs.Plan.{TaskStep}
use Rattle.mp_messages.specs.declared.message.EndKind.{EndKind}
use Rattle.mp_messages.specs.declared.message.EndKind.TheVariants as kinds
use Rattle.mp_messages.specs.declared.message.Message.{Message}
use Rattle.mp_messages.specs.declared.message.Message.TheVariants.{State, Marker, Report, Pick, Trace, Length, Done}
use Rattle.mp_store.specs.declared.entry.Entry.{Entry}
use Rattle.mp_search.specs.AgentState.{AgentState}
use Rattle.mp_snapshot.specs.declared.verdict.Verdict.{Verdict}
use Rattle.mp_snapshot.specs.declared.verdict.Verdict.TheVariants.{Proved, NoPlan, Spent, Continue}
use Rattle.mp_trail.specs.declared.steps.Noted.{Noted}
use Rattle.mp_trail.specs.Share.{share}
use Rattle.mp_machine.specs.declared.event.Ending.TheVariants.{Solved}
use Rattle.mp_machine.specs.AgentRecord.{AgentRecord, given_verdict, is_going}
use Rattle.mp_machine.specs.Taking.{ending_of}
use Rattle.mp_machine.specs.Verdicts.{is_deciding}
use Rattle.mp_world.specs.World.{IsAgent, World, agent_at}
use Rattle.mp_team_snapshots.specs.Messages.{messages}
use Rattle.mp_team_snapshots.specs.Snapshots.{one_if_due}
use Rattle.mp_team_states.specs.Paths.{IsPath, IsSentAt}

-- whether a message is one of the end of a search: of a walk back, or an end without a plan
abbrev pub is_of_end : Message → Bool
is_of_end (State s) = false
is_of_end (Marker number) = false
is_of_end (Report found) = false
is_of_end (Pick number) = true
is_of_end (Trace sent back) = true
is_of_end (Length plan) = true
is_of_end (Done kind) = true

-- such messages that are under way from one agent to another, the oldest first
abbrev pub end_messages : ℕ → World → ℕ → ℕ → List Message
end_messages publics w from to = filter is_of_end (messages publics w from to)

-- An agent's own steps among the last steps of a plan, in the order in which a walk back notes
-- them: the last one first, each with the number of steps that come after it.
unfoldable pub notes : ℕ → List TaskStep → List Noted
notes agent [] = []
notes agent (step ∷ later) =
    notes agent later
    ++ (if step.agent == agent then record { action = step.action; back = length later } ∷ [] else [])

-- How far the end of a search has come.
pub data Stage : Type 0 where
  -- no verdict has ended the search
  searching : Stage
  -- it ends without a plan
  without_plan : EndKind → Stage
  -- A plan is proved, and agent 1 has picked another agent, which walks it back first, by the
  -- number of the snapshot.
  picking : (agent number : ℕ) (plan : List TaskStep) → Stage
  -- The walk goes on over a trace from one agent to another, by the number under which that one
  -- sent a state. The earlier steps of the plan lead to that state; the later ones are walked.
  walking : (from to sent : ℕ) (earlier later : List TaskStep) → Stage
  -- The walk has come to the initial state at an agent, which tells the others the plan's length.
  over : (by : ℕ) (plan : List TaskStep) → Stage

-- the messages of the end that are under way then from one agent to another one, which has ended
-- or goes on: one or none
abbrev pub due : Stage → ℕ → ℕ → Bool → List Message
due searching from to going = []
due (without_plan kind) from to going = one_if_due (from == 1 && going) (Done kind)
due (picking agent number plan) from to going =
    one_if_due (from == 1 && agent == to) (Pick number)
due (walking sender receiver sent earlier later) from to going =
    one_if_due (from == sender && receiver == to) (Trace sent (length later))
due (over by plan) from to going = one_if_due (from == by && going) (Length (length plan))

-- an agent goes on and has noted its own steps among some last ones of the plan
pub record HasWalked (later : List TaskStep) (r : AgentRecord) : Type 0 where
  pub trail : r.trail ≡ notes r.task.me later
  pub going : is_going r.ending ≡ true

-- an agent has noted nothing, and no pick has come
pub record HasNoPart (r : AgentRecord) : Type 0 where
  pub walked : HasWalked [] r
  pub picked : r.picked ≡ false

-- an agent of a search that ends without a plan
pub record EndsWithout (kind : EndKind) (r : AgentRecord) : Type 0 where
  pub trail : r.trail ≡ []
  pub picked : r.picked ≡ false
  pub ending : (is_going r.ending ≡ true) ⊎ (r.ending ≡ ending_of kind)

-- an agent has ended, and its share is what it noted of the plan, with times
pub record HasShare (plan : List TaskStep) (r : AgentRecord) : Type 0 where
  pub ending : r.ending ≡ Solved (length plan)
  pub share : r.share ≡ share (length plan) r.trail

-- an agent has noted its own steps of the whole plan
pub record EndsWith (plan : List TaskStep) (r : AgentRecord) : Type 0 where
  pub trail : r.trail ≡ notes r.task.me plan
  pub ending : (is_going r.ending ≡ true) ⊎ HasShare plan r

-- what each agent has done then
abbrev pub AgentAt : Stage → AgentRecord → Type 0
AgentAt searching r = HasNoPart r
AgentAt (without_plan kind) r = EndsWithout kind r
AgentAt (picking agent number plan) r = HasNoPart r
AgentAt (walking sender receiver sent earlier later) r = HasWalked later r
AgentAt (over by plan) r = EndsWith plan r

-- an agent noted a goal entry, of a number and a cost, when its last snapshot began
pub record HasGoal (r : AgentRecord) (number cost : ℕ) : Type 0 where
  pub entry : Entry AgentState
  pub noted : r.goal ≡ Some number
  pub at : slice_get r.search.kept.entries number ≡ Some entry
  pub is_goal : entry.goal ≡ true
  pub cost_is : entry.g ≡ cost

-- A plan is the one that agent 1 has proved to be cheapest: the path to the goal entry that the
-- agent of the verdict noted, at the cost of the verdict.
pub record IsProved (w : World) (first : AgentRecord) (plan : List TaskStep) : Type 0 where
  pub agent : ℕ
  pub cost : ℕ
  pub verdict : given_verdict first ≡ Some (Proved agent cost)
  pub picked : AgentRecord
  pub there : agent_at w agent ≡ Some picked
  pub number : ℕ
  pub goal : HasGoal picked number cost
  pub path : IsPath w agent number plan

-- the agent that is picked is that of the verdict, and not agent 1
pub record IsPicked (w : World) (first : AgentRecord) (agent number : ℕ) (plan : List TaskStep) : Type 0 where
  pub proved : IsProved w first plan
  pub agent_is : proved.agent ≡ agent
  pub other : agent ≢ 1
  pub number_is : number ≡ first.snapshot.number

-- the state that was sent by a number is that to which some steps lead
pub record LeadsTo (w : World) (sender sent : ℕ) (steps : List TaskStep) : Type 0 where
  pub number : ℕ
  pub given : IsSentAt w sender sent number
  pub path : IsPath w sender number steps

-- the walk of a proved plan goes on from an agent to another one
pub record IsWalked
    (w : World)
    (first : AgentRecord)
    (from to sent : ℕ)
    (earlier later : List TaskStep)
    : Type 0 where
  pub proved : IsProved w first (earlier ++ later)
  pub sender : IsAgent w from
  pub apart : to ≢ from
  pub next : LeadsTo w to sent earlier

-- an agent has ended
pub record HasEnded (w : World) (agent : ℕ) : Type 0 where
  pub who : AgentRecord
  pub there : agent_at w agent ≡ Some who
  pub ended : is_going who.ending ≡ false

-- the walk of a proved plan has come to the initial state at an agent, which has ended
pub record IsOver (w : World) (first : AgentRecord) (by : ℕ) (plan : List TaskStep) : Type 0 where
  pub proved : IsProved w first plan
  pub teller : HasEnded w by

-- how a verdict ends the search without a plan, if it does
abbrev pub end_by : Option Verdict → Option EndKind
end_by None = None
end_by (Some (Proved agent cost)) = None
end_by (Some NoPlan) = Some kinds.NoPlan
end_by (Some (Spent agent)) = Some kinds.Spent
end_by (Some Continue) = None

-- agent 1 has ended the search without a plan, by its verdict
pub record IsDecided (w : World) (first : AgentRecord) (kind : EndKind) : Type 0 where
  pub verdict : end_by (given_verdict first) ≡ Some kind
  pub teller : HasEnded w 1

-- agent 1's verdict, and the plan, if one is proved
abbrev pub VerdictAt : World → AgentRecord → Stage → Type 0
VerdictAt w first searching = is_deciding (given_verdict first) ≡ false
VerdictAt w first (without_plan kind) = IsDecided w first kind
VerdictAt w first (picking agent number plan) = IsPicked w first agent number plan
VerdictAt w first (walking sender receiver sent earlier later) =
    IsWalked w first sender receiver sent earlier later
VerdictAt w first (over by plan) = IsOver w first by plan

-- whether a plan is proved
abbrev pub has_plan : Stage → Bool
has_plan searching = false
has_plan (without_plan kind) = false
has_plan (picking agent number plan) = true
has_plan (walking sender receiver sent earlier later) = true
has_plan (over by plan) = true

-- Two stages are the same, but for the agent that tells a plan's length.
pub data AreSame : Stage → Stage → Type 0 where
  same : (stage : Stage) → AreSame stage stage
  any_teller : (one other : ℕ) (plan : List TaskStep) → AreSame (over one plan) (over other plan)

-- The end of the search has come so far.
pub record IsAt (publics : ℕ) (w : World) (stage : Stage) : Type 0 where
  pub first : AgentRecord
  pub there : agent_at w 1 ≡ Some first
  pub verdict : VerdictAt w first stage
  pub agents : (agent : ℕ) (r : AgentRecord) → agent_at w agent ≡ Some r → AgentAt stage r
  pub mail :
      (from to : ℕ) (r : AgentRecord) → IsAgent w from → agent_at w to ≡ Some r
      → end_messages publics w from to ≡ due stage from to (is_going r.ending)
