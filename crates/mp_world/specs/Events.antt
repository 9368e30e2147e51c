-- What may happen in a world, and what it leads to.
use Rattle.std.specs.Prelude.{ℕ, ◌==◌, ◌&&◌, not, nat_le, Bool, true, false, List, [], ◌∷◌, ◌++◌, length, map, drop, Option, Some, None, option_and_then, slice_index_or, Result, Ok, Err, if◌then◌else◌}
use Rattle.std.specs.List.{fold}
use Rattle.std.specs.Option.{option_map_or}
use Rattle.mp_runs.specs.Run.{run as run_of, IsLegal as IsLegal_for}
use Rattle.mp_messages.specs.declared.history.Event.{Event}
use Rattle.mp_messages.specs.declared.history.Event.TheVariants.{Expand, Take, Start}
use Rattle.mp_machine.specs.declared.event.Local.{Local}
use Rattle.mp_machine.specs.declared.event.Local.TheVariants as locals
use Rattle.mp_machine.specs.declared.outgoing.Out.{Out}
use Rattle.mp_machine.specs.declared.refusal.BadKind.{BadKind}
use Rattle.mp_machine.specs.AgentRecord.{AgentRecord}
use Rattle.mp_machine.specs.LocalStep.{local, may}
use Rattle.mp_machine.specs.Outgoing.{Step, in_bytes}
use Rattle.mp_world.specs.Team.{Team}
use Rattle.mp_world.specs.Values.{Values}
use Rattle.mp_world.specs.World.{World, agent_at, start_world, under_way, with_agent, with_under_way}

-- the agent whose event it is
abbrev pub agent_of : Event → ℕ
agent_of (Expand agent) = agent
agent_of (Take by from) = by
agent_of Start = 1

-- the event as that agent sees it
abbrev pub local_of : Event → Local
local_of (Expand agent) = locals.Expand
local_of (Take by from) = locals.Take from
local_of Start = locals.Start

-- its agent may do it by itself
abbrev pub agent_may : World → Event → Bool
agent_may w event = option_map_or (λ r. may r (local_of event)) (agent_at w (agent_of event)) false

-- there is a message to take, if the event takes one
abbrev pub has_message : World → Event → Bool
has_message w (Expand agent) = true
has_message w (Take by from) = not (length (under_way w from by) == 0)
has_message w Start = true

-- An event may happen where its agent may do it and there is the message that it takes.
abbrev pub is_legal : World → Event → Bool
is_legal w event = agent_may w event && has_message w event

-- the message that it takes, the oldest one; none where it takes none
abbrev pub taken : World → Event → List ℕ
taken w (Expand agent) = []
taken w (Take by from) = slice_index_or (under_way w from by) 0 []
taken w Start = []

-- that message is no longer under way
abbrev pub without_taken : World → Event → World
without_taken w (Expand agent) = w
without_taken w (Take by from) = with_under_way w from by (drop 1 (under_way w from by))
without_taken w Start = w

-- whether a number is that of an agent
abbrev pub is_agent : World → ℕ → Bool
is_agent w agent = nat_le 1 agent && nat_le agent (length w.agents)

-- A message goes out from an agent, behind those that are under way. One that is for no agent of the team goes nowhere.
abbrev pub with_sent : ℕ → World → Out → World
with_sent from w x =
    if is_agent w x.to then with_under_way w from x.to (under_way w from x.to ++ x.bytes ∷ []) else w

-- what goes out in a step, as bytes
abbrev pub sent_in : Step → List Out
sent_in s = map in_bytes s.out

-- the agent has taken a step
abbrev pub after_local : World → Event → Step → World
after_local w event s =
    fold (with_sent (agent_of event)) (with_agent (without_taken w event) (agent_of event) s.after)
    (sent_in s)

-- the world after the step of an agent, and none where the agent found its message to be a bad one
abbrev pub if_good : World → Event → Result Step BadKind → Option World
if_good w event (Ok s) = Some (after_local w event s)
if_good w event (Err kind) = None

module _ (value : Values) where
  -- what the agent of an event does
  abbrev pub local_step : World → Event → AgentRecord → Result Step BadKind
  local_step w event r = local (value r.task) r (local_of event) (taken w event)

  -- the world after an event: none where it may not happen
  unfoldable pub after_event : World → Event → Option World
  after_event w event =
      if is_legal w event
      then option_and_then (λ r. if_good w event (local_step w event r)) (agent_at w (agent_of event))
      else None

-- the world after a schedule: none where one of its events may not happen in its turn
abbrev pub run : Team → List Event → Option World
run team schedule = run_of (after_event team.value) (start_world team) schedule

-- a schedule is legal where each of its events may happen in its turn
abbrev pub IsLegal : Team → List Event → Type 0
IsLegal team schedule = IsLegal_for (after_event team.value) (start_world team) schedule
