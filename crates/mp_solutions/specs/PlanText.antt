-- The text of an answer with its plan: whole lines, each with a line feed, numbers in decimal without leading zeros.
use Rattle.std.specs.Prelude.{ℕ, zero, suc, ◌+◌, ◌==◌, List, [], ◌∷◌, ◌++◌, codes, decimal, if◌then◌else◌}
use Rattle.mp_joint.specs.declared.plan.PlanStep.{PlanStep}
use Rattle.mp_messages.specs.declared.history.Entry.{Entry}
use Rattle.mp_world.specs.declared.answer.Answer.{Answer}
use Rattle.mp_world.specs.declared.answer.Answer.TheVariants.{Nothing, Solved, Unsolvable, Undecided}
use Rattle.mp_text.specs.Lines.{Text, text_of_lines}
use Rattle.mp_text.specs.Outcome.{count_line, labelled, step_line}

-- the lines of an agent's steps on a plan, each with its time; the first step of the plan has this time
abbrev pub own_lines : ℕ → ℕ → List PlanStep → List Text
own_lines agent time [] = []
own_lines agent time (step ∷ steps) =
    (if step.agent == agent then step_line time step ∷ [] else []) ++ own_lines agent (time + 1) steps

-- the lines of the agents up to this one: `agent I` and its steps on the plan
abbrev pub plan_lines : ℕ → List PlanStep → List Text
plan_lines zero plan = []
plan_lines (suc n) plan = plan_lines n plan ++ (codes "agent " ++ decimal (n + 1)) ∷ own_lines (n + 1) 1 plan

-- the lines of an answer of a team of so many agents, with its plan where there is one, and what the agents did
abbrev pub answer_lines : ℕ → Answer → List PlanStep → List Entry → List Text
answer_lines agents Nothing plan log = []
answer_lines agents (Solved cost steps) plan log =
    labelled (codes "cost ") cost ∷ labelled (codes "length ") steps ∷ plan_lines agents plan
    ++ count_line log ∷ []
answer_lines agents Unsolvable plan log = codes "unsolvable" ∷ count_line log ∷ []
answer_lines agents Undecided plan log = codes "undecided" ∷ count_line log ∷ []

abbrev pub answer_text : ℕ → Answer → List PlanStep → List Entry → Text
answer_text agents answer plan log = text_of_lines (answer_lines agents answer plan log)
