-- A search and a member of the program as the plain record that contracts see, and what holds of
-- them.
use Rattle.std.specs.Prelude.{◌≡◌, ◌-◌, ◌*◌, ◌+◌, ◌<◌, ◌≤◌, ◌^◌, true, false, List, [], ◌++◌}
use Rattle.std.specs.Prelude.{length, map, All, IfSome, Result, Ok, Err}
use Rattle.mp_task.specs.AgentTask.{AgentTask}
use Rattle.mp_task.specs.Limits.{IsWithinLimits, most_expansions}
use Rattle.mp_messages.specs.Spelling.{AreFindings, AreStateNumbers}
use Rattle.mp_store.specs.declared.entry.Entry.{Entry}
use Rattle.mp_store.specs.declared.entry.Origin.{Origin}
use Rattle.mp_store.specs.declared.entry.Origin.TheVariants.{Root, Own, From}
use Rattle.mp_search.specs.declared.answer.Sending.{Sending}
use Rattle.mp_search.specs.AgentState.{AgentState}
use Rattle.mp_search.specs.Search.{AgentSearch}
use Rattle.mp_snapshot.specs.Rules.{own}
use Rattle.mp_machine.specs.declared.member.Member.{Member}
use Rattle.mp_machine.specs.declared.outgoing.Out.{Out}
use Rattle.mp_machine.specs.declared.refusal.BadKind.{BadKind}
use Rattle.mp_machine.specs.declared.refusal.StepRefusal.{StepRefusal}
use Rattle.mp_machine.specs.declared.refusal.StepRefusal.TheVariants.{NotNow, Bad, OutOfMemory}
use Rattle.mp_machine.specs.AgentRecord.{AgentRecord}
use Rattle.mp_machine.specs.LocalStep.{outgoing_of}
use Rattle.mp_machine.specs.Outgoing.{Step, in_bytes}
use Rattle.mp_machine.specs.Taking.{knows_of_no_plan}

abbrev pub record_of : AgentSearch → Member → AgentRecord
record_of s m = record {
  task = s.task;
  limit = s.limit;
  search = s.done;
  snapshot = m.snapshot;
  noted = m.noted;
  goal = m.goal;
  picked = m.picked;
  trail = m.trail;
  ending = m.ending;
  share = m.share;
}

-- a sent number that another agent gave fits a message
abbrev pub HasSentBelow : Origin → Type 0
HasSentBelow Root = Unit {0}
HasSentBelow (Own action parent) = Unit {0}
HasSentBelow (From agent sent) = sent < 2 ^ 60

-- the numbers of an entry fit messages
pub record EntryFits (e : Entry AgentState) : Type 0 where
  pub f : e.g + e.h < 2 ^ 60
  pub tokens : All (λ t. t.token < 2 ^ 60) e.key.tags
  pub sent : HasSentBelow e.origin

-- a state that goes out fits a message
pub record SendingFits (s : Sending) : Type 0 where
  pub numbers : AreStateNumbers s.state
  pub facts : All (λ x. x < 2 ^ 32 - 1) s.state.facts

-- the messages of a state that goes out, as bytes
abbrev pub sent_state : Sending → List Out
sent_state s = map in_bytes (outgoing_of s)

-- a search that works, and whose numbers fit messages
pub record IsAtWork (s : AgentSearch) : Type 0 where
  pub works : s.failed ≡ false
  pub task : IsWithinLimits s.task
  pub limit : s.limit ≤ most_expansions
  pub within : s.done.expansions ≤ s.limit
  pub sent : length s.done.kept.sent ≤ 200000 * s.done.expansions
  pub entries : All EntryFits s.done.kept.entries

-- a member is the agent of a task
pub record IsMember (t : AgentTask) (m : Member) : Type 0 where
  pub me : m.me ≡ t.me
  pub agents : m.agents ≡ t.agents
  pub publics : m.publics ≡ t.publics
  pub notes_me : m.snapshot.me ≡ t.me
  pub notes_agents : m.snapshot.agents ≡ t.agents

-- two are the same agent of the same team
pub record IsSameMember (m n : Member) : Type 0 where
  pub me : n.me ≡ m.me
  pub agents : n.agents ≡ m.agents
  pub publics : n.publics ≡ m.publics
  pub notes_me : n.snapshot.me ≡ m.snapshot.me
  pub notes_agents : n.snapshot.agents ≡ m.snapshot.agents

-- an agent that can take a step
pub record IsReady (s : AgentSearch) (m : Member) : Type 0 where
  pub search : IsAtWork s
  pub member : IsMember s.task m
  pub number : m.snapshot.number < 2 ^ 60
  pub marked : length m.snapshot.marked ≡ 16
  pub own : AreFindings (own m.snapshot)
  pub goal : IfSome m.goal (λ n. (n < length s.done.kept.entries) × (n < 2 ^ 60))
  pub trail : knows_of_no_plan (record_of s m) ≡ true → m.trail ≡ []

-- messages were added to others, and the record is another, as a step of the definition says
pub record HasStepped (s : Step) (old new : List Out) (r : AgentRecord) : Type 0 where
  pub out : new ≡ old ++ map in_bytes s.out
  pub after : r ≡ s.after

-- the same where the definition finds the message to be no bad one
abbrev pub HasTaken : Result Step BadKind → List Out → List Out → AgentRecord → Type 0
HasTaken (Ok s) old new r = HasStepped s old new r
HasTaken (Err kind) old new r = ⊥

-- A message is refused as the definition says, and nothing changed, unless memory ran out.
abbrev pub IsRefused : StepRefusal → Result Step BadKind → AgentRecord → AgentRecord → Type 0
IsRefused NotNow wanted r after = ⊥
IsRefused (Bad kind) wanted r after = (wanted ≡ Err kind) × (after ≡ r)
IsRefused OutOfMemory wanted r after = Unit {0}

-- A message was taken or refused as the definition says, unless memory ran out.
abbrev pub IsTaken :
    {A : Type 0} → Result A StepRefusal → Result Step BadKind → List Out → List Out
    → AgentRecord → AgentRecord → Type 0
IsTaken (Ok a) wanted old new r after = HasTaken wanted old new after
IsTaken (Err e) wanted old new r after = IsRefused e wanted r after
