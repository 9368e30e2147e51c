-- Conditions in the order in which files write them, facts and negated facts mixed (PDDL 2.1, factored MA-PDDL).
use Rattle.std.specs.Prelude.{ℕ, suc, zero, List, [], ◌∷◌, ◌+◌, ◌++◌, map, find, Option, None, slice_get}
use Rattle.std.specs.Option.{option_map_or}
use Rattle.std.specs.Str.{bytes_eq}
use Rattle.mp_forms.specs.declared.factor.Factor.{Factor}
use Rattle.mp_forms.specs.declared.literal.Literal.{Literal}
use Rattle.mp_forms.specs.declared.typed_values.Typed.{Typed}
use Rattle.mp_forms.specs.declared.schema_values.Schema.{Schema}
use Rattle.mp_joint.specs.declared.fact.SignedFact.{SignedFact}
use Rattle.mp_joint.specs.declared.plan.PlanStep.{PlanStep}
use Rattle.mp_joint.specs.Fact.{Text}
use Rattle.mp_joint.specs.Grounding.{fact_of}
use Rattle.mp_joint.specs.FactorContribution.{privates_of}

-- what some literals of a factor become, where these objects stand for these parameters
abbrev pub signed_facts : ℕ → Factor → List Typed → List Text → List Literal → List SignedFact
signed_facts agent factor params objects literals =
    map (λ l. record { positive = l.positive; fact = fact_of agent (privates_of factor) params objects l.atom }) literals

-- the factor of an agent; agents are numbered from 1
abbrev pub factor_of : List Factor → ℕ → Option Factor
factor_of factors zero = None
factor_of factors (suc k) = slice_get factors k

-- the action of a factor that has a name
abbrev pub action_of : Factor → Text → Option Schema
action_of factor name = find (λ s. bytes_eq s.word.name name) factor.domain.schemas

-- what an action asks for at some objects, as its precondition is written
abbrev pub asked_at : ℕ → Factor → Text → List Text → List SignedFact
asked_at agent factor name objects =
    option_map_or (λ s. signed_facts agent factor s.params objects s.pre) (action_of factor name) []

-- what a step asks for, as its action's precondition is written
abbrev pub written : List Factor → PlanStep → List SignedFact
written factors step =
    option_map_or (λ factor. asked_at step.agent factor step.action step.args) (factor_of factors step.agent) []

-- the goals of the agents that are numbered from this number on, as their files write them
abbrev pub goals_from : ℕ → List Factor → List SignedFact
goals_from agent [] = []
goals_from agent (factor ∷ factors) =
    signed_facts agent factor [] [] factor.problem.goals ++ goals_from (agent + 1) factors

-- the goals of a team, factor by factor, as its files write them
abbrev pub written_goals : List Factor → List SignedFact
written_goals factors = goals_from 1 factors
