-- The text of an outcome: what a team of agents found, and how much it did for that.
use Rattle.std.specs.Prelude.{ℕ, ◌+◌, List, [], ◌∷◌, ◌++◌, length, codes, decimal, slice_get, Option, Some, None}
use Rattle.std.specs.List.{filter_map, flat_map, sum_by}
use Rattle.std.specs.Option.{option_map, unwrap_or}
use Rattle.mp_joint.specs.declared.plan.PlanStep.{PlanStep}
use Rattle.mp_messages.specs.History.{schedule}
use Rattle.mp_messages.specs.declared.history.Entry.{Entry}
use Rattle.mp_messages.specs.declared.history.Entry.TheVariants.{Act, Put, Took}
use Rattle.mp_trail.specs.declared.steps.Timed.{Timed}
use Rattle.mp_world.specs.declared.answer.Answer.{Answer}
use Rattle.mp_world.specs.declared.answer.Answer.TheVariants.{Nothing, Solved, Unsolvable, Undecided}
use Rattle.mp_world.specs.declared.outcome.Outcome.{Outcome}
use Rattle.mp_text.specs.Lines.{Text, text_of_lines}

-- `T: (NAME ARG ..)`: the time, and the name and each argument after a blank
abbrev pub step_line : ℕ → PlanStep → Text
step_line time step =
    decimal time ++ (codes ": (" ++ (step.action
    ++ (flat_map (λ arg. 32 ∷ arg) step.args ++ codes ")")))

-- the line of an own action on a plan: its time, and what its number stands for, where it stands
-- for something
abbrev pub timed_line : List PlanStep → Timed → Option Text
timed_line own timed = option_map (step_line timed.time) (slice_get own timed.action)

-- the lines of an agent's share of a plan, in the order of the share
abbrev pub share_lines : List PlanStep → List Timed → List Text
share_lines own share = filter_map (timed_line own) share

-- what the own action numbers of the agent at this place stand for
abbrev pub names_at : List (List PlanStep) → ℕ → List PlanStep
names_at names place = unwrap_or (slice_get names place) []

-- the agents with these shares, the first of them at this place: `agent I`, numbered from 1, and
-- the lines of the share
abbrev pub agent_lines : List (List PlanStep) → ℕ → List (List Timed) → List Text
agent_lines names place [] = []
agent_lines names place (share ∷ shares) =
    ((codes "agent " ++ decimal (place + 1)) ∷ share_lines (names_at names place) share)
    ++ agent_lines names (place + 1) shares

-- the message of an entry that puts one
abbrev pub message_put : Entry → Option (List ℕ)
message_put (Act agent kind) = None
message_put (Put from to bytes) = Some bytes
message_put (Took by from bytes) = None

-- the messages that were put, and the bytes of all of them
abbrev pub messages : List Entry → List (List ℕ)
messages log = filter_map message_put log

abbrev pub message_bytes : List Entry → ℕ
message_bytes log = sum_by length (messages log)

-- a label and a number
abbrev pub labelled : Text → ℕ → Text
labelled label number = label ++ decimal number

-- `events N messages M bytes B`: the events are the entries that are acts and receipts
abbrev pub count_line : List Entry → Text
count_line log =
    labelled (codes "events ") (length (schedule log))
    ++ (labelled (codes " messages ") (length (messages log))
    ++ labelled (codes " bytes ") (message_bytes log))

-- the lines of what was found: nothing has none
abbrev pub found_lines : Answer → List (List Timed) → List (List PlanStep) → List Entry → List Text
found_lines Nothing shares names log = []
found_lines (Solved cost steps) shares names log =
    labelled (codes "cost ") cost ∷ labelled (codes "length ") steps ∷ agent_lines names 0 shares
    ++ count_line log ∷ []
found_lines Unsolvable shares names log = codes "unsolvable" ∷ count_line log ∷ []
found_lines Undecided shares names log = codes "undecided" ∷ count_line log ∷ []

-- the text of an outcome, with what each agent's own action numbers stand for, and the log of the
-- run
abbrev pub outcome_text : Outcome → List (List PlanStep) → List Entry → Text
outcome_text outcome names log = text_of_lines (found_lines outcome.answer outcome.shares names log)
