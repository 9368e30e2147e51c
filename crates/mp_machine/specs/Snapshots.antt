-- An agent's part in the snapshots of its team (Chandy and Lamport 1985).
use Rattle.std.specs.Prelude.{ℕ, ◌+◌, ◌==◌, ◌^◌, nat_lt, length, Option, Some, None, if◌then◌else◌}
use Rattle.std.specs.Option.{option_map_or}
use Rattle.mp_messages.specs.declared.message.EndKind.TheVariants as kinds
use Rattle.mp_messages.specs.declared.message.Findings.{Findings}
use Rattle.mp_messages.specs.declared.message.Message.TheVariants.{Marker, Report, Pick, Done}
use Rattle.mp_store.specs.Record.{Record}
use Rattle.mp_store.specs.Minima.{least_f, least_goal}
use Rattle.mp_search.specs.AgentState.{AgentState}
use Rattle.mp_search.specs.Search.{SearchRecord, bound, is_spent}
use Rattle.mp_snapshot.specs.declared.verdict.Verdict.{Verdict}
use Rattle.mp_snapshot.specs.declared.verdict.Verdict.TheVariants.{Proved, NoPlan, Spent, Continue}
use Rattle.mp_snapshot.specs.Notes.{Notes}
use Rattle.mp_snapshot.specs.Rules.{after_marker, begun, is_under_way, is_whole, own}
use Rattle.mp_machine.specs.declared.event.Ending.TheVariants as endings
use Rattle.mp_machine.specs.AgentRecord.{AgentRecord, given_verdict}
use Rattle.mp_machine.specs.Outgoing.{Step, after_sending, without_messages, to_one, to_others}
use Rattle.mp_machine.specs.WalkingBack.{walked_from_goal}

-- What a search with a limit has found. The number is that of the snapshot, and no state is
-- under way yet: a snapshot that begins sees to both.
abbrev pub found_by : ℕ → SearchRecord → Findings
found_by limit s = record {
  number = 0;
  least = least_f s.kept;
  under_way = None;
  goal = bound s.kept;
  spent = is_spent limit s;
}

abbrev pub findings : AgentRecord → Findings
findings r = found_by r.limit r.search

-- an entry from which a plan can be walked back: the plan is at most as long as the entry's
-- number, and the lengths that messages tell are below 2 ^ 60
abbrev pub if_walkable : Option (ℕ × ℕ) → Option ℕ
if_walkable None = None
if_walkable (Some (cost, entry)) = if nat_lt entry (2 ^ 60) then Some entry else None

-- the lowest goal entry of the least cost
abbrev pub goal_entry : Record AgentState → Option ℕ
goal_entry r = if_walkable (least_goal r)

-- a snapshot begins here, so that the agent notes what it has
abbrev pub with_notes : Notes → AgentRecord → AgentRecord
with_notes snapshot r = record r {
  snapshot = snapshot;
  noted = length r.search.kept.entries;
  goal = goal_entry r.search.kept;
}

-- What agent 1 does by a verdict. By the first one an agent begins to walk the plan back; by the
-- next two all end.
abbrev pub by_verdict : AgentRecord → Verdict → Step
by_verdict r (Proved agent cost) =
    if agent == r.task.me
    then walked_from_goal r
    else (record { out = to_one agent (Pick r.snapshot.number); after = r })
by_verdict r NoPlan = record {
  out = to_others r.task (Done kinds.NoPlan);
  after = record r { ending = endings.NoPlan };
}
by_verdict r (Spent agent) = record {
  out = to_others r.task (Done kinds.Spent);
  after = record r { ending = endings.Spent };
}
by_verdict r Continue = without_messages r

-- agent 1 gives its verdict once the findings of all agents are here
unfoldable pub judged : AgentRecord → Step
judged r = option_map_or (by_verdict r) (given_verdict r) (without_messages r)

-- another agent reports its findings to agent 1 once they are whole
abbrev pub reported : AgentRecord → Step
reported r =
    if is_whole r.snapshot
    then (record { out = to_one 1 (Report (own r.snapshot)); after = r })
    else without_messages r

abbrev pub judged_or_reported : AgentRecord → Step
judged_or_reported r = if r.task.me == 1 then judged r else reported r

-- agent 1 starts the next snapshot
abbrev pub started : AgentRecord → Step
started r =
    after_sending (to_others r.task (Marker (r.snapshot.number + 1)))
    (judged (with_notes (begun r.snapshot (r.snapshot.number + 1) (findings r)) r))

-- A marker has come that is not strange. By the first one the snapshot begins here, and all
-- others are sent a marker.
abbrev pub marked : AgentRecord → ℕ → ℕ → Step
marked r from number =
    if is_under_way r.snapshot
    then
    judged_or_reported (record r { snapshot = after_marker r.snapshot from number (findings r) })
    else
    after_sending (to_others r.task (Marker number))
    (judged_or_reported (with_notes (after_marker r.snapshot from number (findings r)) r))
