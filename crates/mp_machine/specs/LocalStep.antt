-- The step of one agent: what may happen, and what it leads to. It knows the agent's own record
-- and the bytes that it takes, and nothing else (MAD-A*, Nissim and Brafman 2014).
use Rattle.std.specs.Prelude.{ℕ, ◌+◌, ◌==◌, ◌&&◌, ◌^◌, not, nat_le, nat_lt, Bool, List, Option}
use Rattle.std.specs.Prelude.{Result, Ok}
use Rattle.std.specs.List.{flat_map}
use Rattle.mp_sets.specs.Numbers.{Numbers}
use Rattle.mp_task.specs.AgentTask.{AgentTask}
use Rattle.mp_messages.specs.declared.message.Message.TheVariants.{State}
use Rattle.mp_search.specs.declared.answer.Sending.{Sending}
use Rattle.mp_search.specs.Expansion.{expanded}
use Rattle.mp_search.specs.Search.{SearchRecord, may_expand}
use Rattle.mp_snapshot.specs.Rules.{is_under_way}
use Rattle.mp_machine.specs.declared.event.Local.{Local}
use Rattle.mp_machine.specs.declared.event.Local.TheVariants.{Expand, Take, Start}
use Rattle.mp_machine.specs.declared.refusal.BadKind.{BadKind}
use Rattle.mp_machine.specs.AgentRecord.{AgentRecord, given_verdict, is_going}
use Rattle.mp_machine.specs.Outgoing.{Outgoing, Step, to_each}
use Rattle.mp_machine.specs.Snapshots.{started}
use Rattle.mp_machine.specs.Taking.{took}
use Rattle.mp_machine.specs.Verdicts.{is_deciding}

-- Agent 1 may start a snapshot once it has nothing to expand, none is under way, and the search
-- is not decided. The numbers of snapshots are below 2 ^ 60.
abbrev pub may_start : AgentRecord → Bool
may_start r =
    (r.task.me == 1) && not (may_expand r.limit r.search) && not (is_under_way r.snapshot)
    && not (is_deciding (given_verdict r)) && nat_lt (r.snapshot.number + 1) (2 ^ 60)

-- another agent of the team
abbrev pub is_another : AgentTask → ℕ → Bool
is_another t agent = nat_le 1 agent && nat_le agent t.agents && not (agent == t.me)

-- What may happen at an agent that has not ended: a message may be taken from each other agent.
abbrev pub may_now : AgentRecord → Local → Bool
may_now r Expand = may_expand r.limit r.search
may_now r (Take from) = is_another r.task from
may_now r Start = may_start r

abbrev pub may : AgentRecord → Local → Bool
may r event = is_going r.ending && may_now r event

-- a state goes out to each agent that it is for
abbrev pub outgoing_of : Sending → List Outgoing
outgoing_of s = to_each s.to (State s.state)

-- an entry was expanded
abbrev pub with_search : AgentRecord → List Sending × SearchRecord → Step
with_search r (out, search) = record {
  out = flat_map outgoing_of out;
  after = record r { search = search };
}

-- The step of an agent at an event, with the bytes that it takes; an expansion and a start take
-- none. A heuristic's value is a parameter. It leads to messages and a new record, or finds the
-- message that it takes to be a bad one.
abbrev pub local :
    (Numbers → Numbers → Option ℕ) → AgentRecord → Local → List ℕ → Result Step BadKind
local value r Expand bytes = Ok (with_search r (expanded r.task value r.search))
local value r (Take from) bytes = took value r from bytes
local value r Start bytes = Ok (started r)
