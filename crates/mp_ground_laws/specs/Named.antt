-- The steps that the numbers of a factor stand for.
use Rattle.std.specs.Prelude.{ℕ, List, map}
use Rattle.mp_forms.specs.declared.factor.Factor.{Factor}
use Rattle.mp_sexp.specs.Numbers.{name_at}
use Rattle.mp_joint.specs.declared.plan.PlanStep.{PlanStep}
use Rattle.mp_joint.specs.Fact.{Text}
use Rattle.mp_lifting.specs.Vocabulary.{vocabulary_of}
use Rattle.mp_lifted.specs.Binding.{ActionBinding}

-- the names of the actions, in the order of the file
abbrev pub action_names : Factor → List Text
action_names factor = map (λ s. s.word.name) factor.domain.schemas

-- the objects with these numbers
abbrev pub named_objects : Factor → List ℕ → List Text
named_objects factor numbers = map (name_at (vocabulary_of factor).objects) numbers

-- the step of an agent that an action, by its place, and objects stand for
abbrev pub step_at : ℕ → Factor → ℕ → List ℕ → PlanStep
step_at agent factor action objects =
    record { agent = agent; action = name_at (action_names factor) action; args = named_objects factor objects }

abbrev pub step_of : ℕ → Factor → ActionBinding → PlanStep
step_of agent factor i = step_at agent factor i.action i.objects
