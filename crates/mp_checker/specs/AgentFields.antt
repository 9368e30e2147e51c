-- What is kept of an agent's factor in numbers.
use Rattle.std.specs.Prelude.{◌≡◌, map}
use Rattle.mp_forms.specs.declared.schema_values.Schema.{Schema}
use Rattle.mp_joint.specs.FactorContribution.{privates_of, declared_objects}
use Rattle.mp_lifting.specs.Vocabulary.{declared_names}
use Rattle.mp_checker.specs.declared.factor.AgentFactor.TheInside.{Inside}
use Rattle.mp_checker.specs.AgentView.{AgentView, Covers}
use Rattle.mp_checker.specs.Costs.{HasValues}
use Rattle.mp_checker.specs.Numbering.{object_number, numbered_action}
use Rattle.mp_lifting.specs.Privates.{private_in}
use Rattle.mp_checker.specs.Words.{names_of_factor}

abbrev pub agent_view : Inside → AgentView
agent_view f = (f.names.now, f.agent, f.checked.now)

pub record IsNumbered (f : Inside) : Type 0 where
  pub covers : Covers f.names.now (names_of_factor f.checked.now)
  pub privates : private_in f.privates ≡ privates_of f.checked.now
  pub objects : f.objects ≡ declared_names (declared_objects f.checked.now)
  pub numbers : f.numbers ≡ map (object_number f.names.now (privates_of f.checked.now)) f.objects
  pub action_names : f.action_names ≡ map (λ (s : Schema). s.word.name) f.checked.now.domain.schemas
  pub actions : f.actions ≡ map (numbered_action f.names.now f.checked.now) f.checked.now.domain.schemas
  pub values : HasValues f.names.now f.values.entries f.checked.now.problem.values
