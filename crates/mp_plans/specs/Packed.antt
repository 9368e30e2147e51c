-- What is told of the concurrent steps of a plan.
use Rattle.std.specs.Prelude.{ℕ, ◌+◌, List, [], ◌∷◌, ◌++◌, length, codes, decimal}
use Rattle.std.specs.List.{filter_map, flat_map}
use Rattle.std.specs.Option.{option_map}
use Rattle.mp_joint.specs.declared.plan.PlanStep.{PlanStep}
use Rattle.mp_steps.specs.Interference.{at_time}
use Rattle.mp_steps.specs.declared.plan.Packed.{Packed}
use Rattle.mp_text.specs.Lines.{Text, text_of_lines}
use Rattle.mp_text.specs.Outcome.{labelled}
use Rattle.mp_plans.specs.Verdict.{named_text}

-- `I (NAME ARG ..)`: the agent of an action, its name and its arguments
abbrev pub action_line : PlanStep → Text
action_line step = decimal step.agent ++ (codes " " ++ named_text step.action step.args)

-- the actions of a plan that have these times
abbrev pub action_lines : List PlanStep → List ℕ → List Text
action_lines plan times = filter_map (λ t. option_map action_line (at_time plan t)) times

-- the steps from this number on: `step N`, and the actions of each in the order of their times
abbrev pub lines_of_steps : List PlanStep → ℕ → List (List ℕ) → List Text
lines_of_steps plan number [] = []
lines_of_steps plan number (times ∷ steps) =
    (labelled (codes "step ") number ∷ action_lines plan times) ++ lines_of_steps plan (number + 1) steps

-- `chain T ..`
abbrev pub chain_line : List ℕ → Text
chain_line chain = codes "chain" ++ flat_map (λ t. codes " " ++ decimal t) chain

-- the cost of a plan, how many steps it has, the steps, and the chain through them
abbrev pub packed_lines : List PlanStep → Packed → List Text
packed_lines plan packed =
    (labelled (codes "cost ") packed.cost ∷ labelled (codes "steps ") (length packed.steps) ∷ lines_of_steps plan 1 packed.steps)
    ++ chain_line packed.chain ∷ []

abbrev pub steps_text : List PlanStep → Packed → Text
steps_text plan packed = text_of_lines (packed_lines plan packed)
