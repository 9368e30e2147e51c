-- What an agent does with a message that it takes, by the kind of message. Which messages are
-- bad ones depends on what the agent has done so far; the first kind of these that a message is
-- of is told.
use Rattle.std.specs.Prelude.{ℕ, ◌+◌, ◌==◌, ◌&&◌, ◌||◌, ◌^◌, not, nat_lt, Bool, true, List, length}
use Rattle.std.specs.Prelude.{Option, Result, Ok, Err, if◌then◌else◌}
use Rattle.std.specs.Option.{option_map_or, is_none}
use Rattle.mp_sets.specs.Numbers.{Numbers}
use Rattle.mp_messages.specs.declared.message.EndKind.{EndKind}
use Rattle.mp_messages.specs.declared.message.EndKind.TheVariants as kinds
use Rattle.mp_messages.specs.declared.message.Findings.{Findings}
use Rattle.mp_messages.specs.declared.message.Message.{Message}
use Rattle.mp_messages.specs.declared.message.Message.TheVariants.{State as AState, Marker, Report}
use Rattle.mp_messages.specs.declared.message.Message.TheVariants.{Pick, Trace, Length, Done}
use Rattle.mp_messages.specs.declared.message.State.{State}
use Rattle.mp_store.specs.Sent.{sent_entry}
use Rattle.mp_search.specs.Receipt.{is_byte_right, is_token_given, received}
use Rattle.mp_search.specs.Spelled.{message_of}
use Rattle.mp_snapshot.specs.Rules.{after_report, after_state, is_strange_marker, is_strange_report}
use Rattle.mp_snapshot.specs.Rules.{is_under_way}
use Rattle.mp_trail.specs.Share.{fits}
use Rattle.mp_machine.specs.declared.event.Ending.{Ending}
use Rattle.mp_machine.specs.declared.event.Ending.TheVariants as endings
use Rattle.mp_machine.specs.declared.refusal.BadKind.{BadKind}
use Rattle.mp_machine.specs.declared.refusal.BadKind.TheVariants.{NotASpelling, UnknownToken}
use Rattle.mp_machine.specs.declared.refusal.BadKind.TheVariants.{WrongByte, StrangeMarker}
use Rattle.mp_machine.specs.declared.refusal.BadKind.TheVariants.{StrangeReport, StrangePick}
use Rattle.mp_machine.specs.declared.refusal.BadKind.TheVariants.{StrangeTrace, StrangeLength}
use Rattle.mp_machine.specs.declared.refusal.BadKind.TheVariants.{StrangeDone}
use Rattle.mp_machine.specs.AgentRecord.{AgentRecord, given_verdict}
use Rattle.mp_machine.specs.Outgoing.{Step, without_messages}
use Rattle.mp_machine.specs.Snapshots.{judged, marked}
use Rattle.mp_machine.specs.Verdicts.{is_proved}
use Rattle.mp_machine.specs.WalkingBack.{solved, walked, walked_from_goal}

-- what an agent does, unless the message is a bad one of a kind
abbrev pub unless_bad : Bool → BadKind → Step → Result Step BadKind
unless_bad bad kind s = if bad then Err kind else Ok s

-- Agent 1 has proved no plan to be cheapest. It can hear nothing of a plan that is walked back
-- then; what another agent knows of that it can't tell.
abbrev pub knows_of_no_plan : AgentRecord → Bool
knows_of_no_plan r = (r.task.me == 1) && not (is_proved (given_verdict r))

-- ---- a marker and a report of a snapshot

abbrev pub took_marker : AgentRecord → ℕ → ℕ → Result Step BadKind
took_marker r from number =
    unless_bad (is_strange_marker r.snapshot from number) StrangeMarker (marked r from number)

abbrev pub took_report : AgentRecord → ℕ → Findings → Result Step BadKind
took_report r from found =
    unless_bad (is_strange_report r.snapshot from found) StrangeReport
    (judged (record r { snapshot = after_report r.snapshot from found }))

-- ---- messages of a walk back

-- Agent 1 picks the agent that walks back first, once, by the number of the last snapshot, which
-- is over. The agent has noted a goal in it, and no action yet.
abbrev pub is_strange_pick : AgentRecord → ℕ → ℕ → Bool
is_strange_pick r from number =
    not (from == 1) || not (number == r.snapshot.number) || is_under_way r.snapshot
    || is_none r.goal || r.picked || not (length r.trail == 0)

abbrev pub took_pick : AgentRecord → ℕ → ℕ → Result Step BadKind
took_pick r from number =
    unless_bad (is_strange_pick r from number) StrangePick
    (walked_from_goal (record r { picked = true }))

-- The walk goes on at an entry that was sent. More actions come after it than after any that is
-- noted, and lengths of plans that can be sent are below 2 ^ 60.
abbrev pub is_strange_trace : AgentRecord → ℕ → ℕ → Bool
is_strange_trace r entry back =
    not (nat_lt (back + entry) (2 ^ 60)) || not (fits back r.trail) || knows_of_no_plan r

abbrev pub traced : AgentRecord → ℕ → ℕ → Result Step BadKind
traced r back entry = unless_bad (is_strange_trace r entry back) StrangeTrace (walked r entry back)

-- a sent number that was not given is strange, too
abbrev pub took_trace : AgentRecord → ℕ → ℕ → Result Step BadKind
took_trace r sent back =
    option_map_or (traced r back) (sent_entry sent r.search.kept) (Err StrangeTrace)

-- a plan of this length has room for all actions that are noted
abbrev pub is_strange_length : AgentRecord → ℕ → Bool
is_strange_length r plan = not (fits plan r.trail) || knows_of_no_plan r

abbrev pub took_length : AgentRecord → ℕ → Result Step BadKind
took_length r plan =
    unless_bad (is_strange_length r plan) StrangeLength (without_messages (solved r plan))

-- ---- the end without a plan

abbrev pub ending_of : EndKind → Ending
ending_of kinds.NoPlan = endings.NoPlan
ending_of kinds.Spent = endings.Spent

-- agent 1 alone ends the search
abbrev pub took_done : AgentRecord → ℕ → EndKind → Result Step BadKind
took_done r from kind =
    unless_bad (not (from == 1)) StrangeDone
    (without_messages (record r { ending = ending_of kind }))

-- ---- a state, and any message

module _ (value : Numbers → Numbers → Option ℕ) where
  -- a state is offered to the search, and a snapshot counts it if it was under way
  unfoldable pub with_state : AgentRecord → ℕ → State → AgentRecord
  with_state r from m = record r {
    search = record r.search { kept = (received r.task value from m r.search.kept).1 };
    snapshot = after_state r.snapshot from (m.g + m.h);
  }

  abbrev pub took_state : AgentRecord → ℕ → State → Result Step BadKind
  took_state r from m =
      if not (is_token_given r.task r.search.kept m) then Err UnknownToken
      else
      unless_bad (not (is_byte_right r.task r.search.kept m)) WrongByte
      (without_messages (with_state r from m))

  abbrev pub took_message : AgentRecord → ℕ → Message → Result Step BadKind
  took_message r from (AState m) = took_state r from m
  took_message r from (Marker number) = took_marker r from number
  took_message r from (Report found) = took_report r from found
  took_message r from (Pick number) = took_pick r from number
  took_message r from (Trace sent back) = took_trace r sent back
  took_message r from (Length plan) = took_length r plan
  took_message r from (Done kind) = took_done r from kind

  -- any bytes
  unfoldable pub took : AgentRecord → ℕ → List ℕ → Result Step BadKind
  took r from bytes =
      option_map_or (took_message r from) (message_of r.task.agents r.task.publics bytes)
      (Err NotASpelling)
