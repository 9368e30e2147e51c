-- Plans as texts: what a team's outcome with a plan is printed as, where the line that counts may be missing.
use Rattle.std.specs.Prelude.{◌≡◌, ⊤, ℕ, zero, suc, ◌+◌, ◌==◌, List, [], ◌∷◌, ◌++◌, length, drop, find, map, codes, Option, Some, None, Result, Ok, Err, if◌then◌else◌}
use Rattle.std.specs.List.{range_with_len}
use Rattle.std.specs.Option.{option_map, option_map_or}
use Rattle.mp_joint.specs.declared.plan.PlanStep.{PlanStep}
use Rattle.mp_text.specs.declared.schedule.LineRefusal.{LineRefusal}
use Rattle.mp_text.specs.declared.schedule.LineRefusal.TheVariants.{Line, OutOfMemory}
use Rattle.mp_text.specs.Lines.{Text}
use Rattle.mp_plans.specs.declared.line.TimedStep.{TimedStep}
use Rattle.mp_plans.specs.declared.plan.PlanText.{PlanText}
use Rattle.mp_plans.specs.Lines.{is_agent_line, is_count_line, number_line, step_between, whole_lines}

-- the steps of an agent: the lines at the front that are steps of its, at times that rise up to the plan's length
abbrev pub own_steps : ℕ → ℕ → ℕ → List Text → List TimedStep
own_steps agent most last [] = []
own_steps agent most last (line ∷ lines) =
    option_map_or (λ timed. timed ∷ own_steps agent most timed.time lines)
    (step_between agent last most line) []

-- steps before others, where those are not refused
abbrev pub with_steps : List TimedStep → Result (List TimedStep) ℕ → Result (List TimedStep) ℕ
with_steps own (Ok later) = Ok (own ++ later)
with_steps own (Err refused) = Err refused

-- no line is left, where the next one would have this number
abbrev pub nothing_left : ℕ → List Text → Result (List TimedStep) ℕ
nothing_left number [] = Ok []
nothing_left number (line ∷ lines) = Err number

-- what follows the agents: nothing, or the line that counts and then nothing
abbrev pub behind_agents : ℕ → List Text → Result (List TimedStep) ℕ
behind_agents number [] = Ok []
behind_agents number (line ∷ lines) = if is_count_line line then nothing_left (number + 1) lines else Err number

-- The steps of so many agents from this one on, each agent's behind its own line, or the number of the first line that
-- is refused, where the first of these lines has this number.
abbrev pub agents_of : ℕ → ℕ → ℕ → ℕ → List Text → Result (List TimedStep) ℕ
agents_of zero agent most number lines = behind_agents number lines
agents_of (suc more) agent most number [] = Err number
agents_of (suc more) agent most number (line ∷ lines) =
    let own = own_steps agent most 0 lines in
    if is_agent_line agent line
    then with_steps own
    (agents_of more (agent + 1) most (number + 1 + length own) (drop (length own) lines))
    else Err number

-- the step of a time, the first one where there are several
abbrev pub step_at : List TimedStep → ℕ → Option PlanStep
step_at steps time = option_map (λ timed. timed.step) (find (λ timed. timed.time == time) steps)

-- all of these, where each is there
abbrev pub all_there : {X : Type 0} → List (Option X) → Option (List X)
all_there [] = Some []
all_there (None ∷ others) = None
all_there (Some x ∷ others) = option_map (λ xs. x ∷ xs) (all_there others)

-- the steps by time, where there are so many, and each time up to there has one: so no time is missing or doubled
abbrev pub in_order : ℕ → List TimedStep → Option (List PlanStep)
in_order most steps =
    if length steps == most then all_there (map (step_at steps) (range_with_len 1 most)) else None

-- the plan of these steps; where a time is missing or doubled, the second line is refused, which tells the length
abbrev pub plan_of : ℕ → ℕ → Result (List TimedStep) ℕ → Result PlanText ℕ
plan_of cost most (Err refused) = Err refused
plan_of cost most (Ok steps) =
    option_map_or (λ plan. Ok (record { cost = cost; plan = plan })) (in_order most steps) (Err 2)

-- a line that is a label and a number, and what follows it
abbrev pub labelled_then
    : {X : Type 0} → Text → ℕ → (ℕ → List Text → Result X ℕ) → List Text → Result X ℕ
labelled_then label number onward [] = Err number
labelled_then label number onward (line ∷ lines) =
    option_map_or (λ n. onward n lines) (number_line label line) (Err number)

-- The plan that a text has for a team of so many agents, with the cost that it states, or the number of the first line
-- that is refused: its cost, its length, and the steps of each agent.
abbrev pub plan_in : ℕ → Text → Result PlanText ℕ
plan_in agents text =
    labelled_then (codes "cost ") 1
    (λ cost behind_cost. labelled_then (codes "length ") 2
    (λ most lines. plan_of cost most (agents_of agents 1 most 3 lines)) behind_cost)
    (whole_lines text)

-- A refused line is the first one that is not of its form. Memory may run out at any text.
abbrev pub Refuses : {X : Type 0} → LineRefusal → Result X ℕ → Type 0
Refuses (Line number) read = read ≡ Err number
Refuses OutOfMemory read = ⊤
