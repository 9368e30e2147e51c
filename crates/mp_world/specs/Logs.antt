-- What a run keeps a record of: each event, and behind it the messages that went out.
use Rattle.std.specs.Prelude.{◌≡◌, ℕ, true, List, [], ◌∷◌, ◌++◌, map, Option, Some, Result, Ok, Err, Contains}
use Rattle.std.specs.Option.{option_map_or}
use Rattle.mp_sets.specs.Numbers.{Numbers}
use Rattle.mp_task.specs.AgentTask.{AgentTask}
use Rattle.mp_messages.specs.declared.history.Kind.TheVariants as acts
use Rattle.mp_messages.specs.declared.history.Event.{Event}
use Rattle.mp_messages.specs.declared.history.Event.TheVariants.{Expand, Take, Start}
use Rattle.mp_messages.specs.declared.history.Entry.{Entry}
use Rattle.mp_messages.specs.declared.history.Entry.TheVariants.{Act, Put, Took}
use Rattle.mp_messages.specs.History.{IsHistory, agent_of as owner_of, part, schedule, sent, under_way as under_way_in}
use Rattle.mp_machine.specs.declared.outgoing.Out.{Out}
use Rattle.mp_machine.specs.declared.refusal.BadKind.{BadKind}
use Rattle.mp_machine.specs.AgentRecord.{AgentRecord, new_record}
use Rattle.mp_machine.specs.LocalStep.{local, may}
use Rattle.mp_machine.specs.Outgoing.{Step}
use Rattle.mp_world.specs.Events.{after_event, agent_of, local_of, local_step, run, sent_in, taken}
use Rattle.mp_world.specs.Team.{Team}
use Rattle.mp_world.specs.Values.{Values}
use Rattle.mp_world.specs.World.{IsAgent, World, agent_at, start_world, under_way}

-- an event with the bytes that it takes
abbrev pub entry_of : Event → List ℕ → Entry
entry_of (Expand agent) bytes = Act agent acts.Expand
entry_of (Take by from) bytes = Took by from bytes
entry_of Start bytes = Act 1 acts.Start

-- messages that go out from an agent
abbrev pub put_by : ℕ → Out → Entry
put_by from x = Put from x.to x.bytes

-- an event, and behind it the messages that went out, in their order
abbrev pub entries_of : Event → List ℕ → List Out → List Entry
entries_of event bytes out = entry_of event bytes ∷ map (put_by (agent_of event)) out

module _ (value : Values) where
  abbrev pub entries_if_good : World → Event → Result Step BadKind → List Entry
  entries_if_good w event (Ok s) = entries_of event (taken w event) (sent_in s)
  entries_if_good w event (Err kind) = []

  -- the entries of an event that happens in a world
  abbrev pub log_after : World → Event → List Entry
  log_after w event =
      option_map_or (λ r. entries_if_good w event (local_step value w event r)) (agent_at w (agent_of event)) []

  -- the log of events from a world on, one after another
  unfoldable pub log_from : World → List Event → List Entry
  log_from w [] = []
  log_from w (event ∷ events) =
      log_after w event ++ option_map_or (λ next. log_from next events) (after_event value w event) []

-- the log of a run
abbrev pub log_of_run : Team → List Event → List Entry
log_of_run team schedule = log_from team.value (start_world team) schedule

module _ (value : Numbers → Numbers → Option ℕ) where
  -- What an agent does, one step after another, from one record to another: each event may happen at it, its message is
  -- no bad one, and what goes out is put directly behind it.
  pub data HasDone : AgentRecord → List Entry → AgentRecord → Type 0 where
    nothing : (r : AgentRecord) → HasDone r [] r
    onward :
        (r last : AgentRecord) (event : Event) (bytes : List ℕ) (s : Step) (later : List Entry)
        → agent_of event ≡ r.task.me
        → may r (local_of event) ≡ true
        → local value r (local_of event) bytes ≡ Ok s
        → HasDone s.after later last
        → HasDone r (entries_of event bytes (sent_in s) ++ later) last

-- What an agent does from the start.
pub record IsLocalLog
    (value : Values)
    (limit : ℕ)
    (t : AgentTask)
    (log : List Entry)
    : Type 0 where
  pub last : AgentRecord
  pub done : HasDone (value t) (new_record t (value t) limit) log last

-- A log of a team: a legal history of a network in which each agent has done what its task leads it to, and no one else
-- has done anything.
pub record IsLog (team : Team) (log : List Entry) : Type 0 where
  pub history : IsHistory log
  pub of_team : (e : Entry) → Contains log e
      → (t : AgentTask) × Contains team.tasks t × (owner_of e ≡ t.me)
  pub parts : (t : AgentTask) → Contains team.tasks t → IsLocalLog team.value team.limit t (part log t.me)

-- A log has the run of its schedule: the schedule is legal, each agent has done in it what its part of the log says, and
-- the same messages are under way at the end. The log of that run has the same parts, and the same messages put between
-- each two agents; only entries of different agents may stand in another order.
pub record HasRun (team : Team) (log : List Entry) (is : IsLog team log) : Type 0 where
  pub last : World
  pub runs : run team (schedule log) ≡ Some last
  pub agents : (t : AgentTask) (here : Contains team.tasks t) → agent_at last t.me ≡ Some (is.parts t here).last
  pub mail : (from to : ℕ) → IsAgent last from → IsAgent last to → under_way last from to ≡ under_way_in from to log
  pub same_parts : (agent : ℕ) → IsAgent last agent
      → part (log_of_run team (schedule log)) agent ≡ part log agent
  pub same_puts : (from to : ℕ) → IsAgent last from
      → sent from to (log_of_run team (schedule log)) ≡ sent from to log
