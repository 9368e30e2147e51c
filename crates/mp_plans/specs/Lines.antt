-- The lines of a plan.
use Rattle.std.specs.Prelude.{ℕ, ◌+◌, ◌==◌, ◌&&◌, Bool, false, nat_le, nat_lt, List, [], ◌∷◌, codes, Option, Some, None, if◌then◌else◌}
use Rattle.std.specs.List.{slice_split}
use Rattle.std.specs.Option.{option_map_or}
use Rattle.std.specs.Str.{bytes_eq}
use Rattle.mp_joint.specs.declared.plan.PlanStep.{PlanStep}
use Rattle.mp_messages.specs.Reading.{◌>>=◌}
use Rattle.mp_text.specs.Lines.{Text, with_first_byte}
use Rattle.mp_plans.specs.declared.line.TimedStep.{TimedStep}
use Rattle.mp_plans.specs.Fields.{before, behind, number_at, numeral_at}
use Rattle.mp_plans.specs.Names.{if_name, if_names, is_blank}

-- the lines of a text, each with the line feed that ends it; the last one may lack it
abbrev pub whole_lines : Text → List Text
whole_lines [] = []
whole_lines (byte ∷ text) =
    if byte == 10 then (10 ∷ []) ∷ whole_lines text else with_first_byte byte (whole_lines text)

-- how many bytes the first line has
abbrev pub line_size : Text → ℕ
line_size [] = 0
line_size (byte ∷ text) = if byte == 10 then 1 else 1 + line_size text

-- a line ends here
abbrev pub is_line_end : Text → Bool
is_line_end rest = bytes_eq rest (10 ∷ [])

-- a label and a number below 2^60
unfoldable pub number_line : Text → Text → Option ℕ
number_line label line = do
  rest ← behind label line
  number ← number_at rest
  if is_line_end number.1 then Some number.0 else None

-- `agent I`
unfoldable pub is_agent_line : ℕ → Text → Bool
is_agent_line agent line = option_map_or (λ number. number == agent) (number_line (codes "agent ") line) false

-- `events N messages M bytes B`, where the numbers have no bound
unfoldable pub counts_behind : Text → Option Text
counts_behind line = do
  rest ← behind (codes "events ") line
  events ← numeral_at rest
  rest ← behind (codes " messages ") events.1
  messages ← numeral_at rest
  rest ← behind (codes " bytes ") messages.1
  bytes ← numeral_at rest
  Some bytes.1

unfoldable pub is_count_line : Text → Bool
is_count_line line = option_map_or is_line_end (counts_behind line) false

-- `T: (`, names with a blank between each two, and `)`
unfoldable pub step_fields : Text → Option (ℕ × Text)
step_fields line = do
  time ← number_at line
  rest ← behind (codes ": (") time.1
  names ← before (codes ")\n") rest
  Some (time.0, names)

-- the step of an agent by the name of its action and its arguments
abbrev pub step_named : ℕ → List Text → Option PlanStep
step_named agent [] = None
step_named agent (word ∷ words) = do
  action ← if_name word
  args ← if_names words
  Some (record { agent = agent; action = action; args = args })

unfoldable pub step_of : ℕ → Text → Option PlanStep
step_of agent names = step_named agent (slice_split is_blank names)

-- those of a time behind the last one and within the plan
unfoldable pub fields_between : ℕ → ℕ → Text → Option (ℕ × Text)
fields_between last most line = do
  fields ← step_fields line
  if nat_lt last fields.0 && nat_le fields.0 most then Some fields else None

-- the line of a step of this agent, behind the last time and within the plan
unfoldable pub step_between : ℕ → ℕ → ℕ → Text → Option TimedStep
step_between agent last most line = do
  fields ← fields_between last most line
  step ← step_of agent fields.1
  Some (record { time = fields.0; step = step })
