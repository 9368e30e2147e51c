-- What the own actions of a team's agents stand for.
use Rattle.std.specs.Prelude.{ℕ, ◌+◌, List, [], ◌∷◌, map}
use Rattle.mp_forms.specs.declared.factor.Factor.{Factor}
use Rattle.mp_joint.specs.declared.plan.PlanStep.{PlanStep}
use Rattle.mp_lifted.specs.Binding.{ActionBinding}
use Rattle.mp_ground_laws.specs.Named.{step_of}

-- by names, the steps that are given by numbers, agent by agent; the first agent has this number
abbrev pub names_from : ℕ → List Factor → List (List ActionBinding) → List (List PlanStep)
names_from agent [] steps = []
names_from agent (factor ∷ factors) [] = []
names_from agent (factor ∷ factors) (own ∷ steps) =
    map (step_of agent factor) own ∷ names_from (agent + 1) factors steps

-- agents are numbered from 1
abbrev pub names_of : List Factor → List (List ActionBinding) → List (List PlanStep)
names_of factors steps = names_from 1 factors steps
