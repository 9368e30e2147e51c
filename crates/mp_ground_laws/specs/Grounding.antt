-- The grounded actions of an agent's factor, by names.
use Rattle.std.specs.Prelude.{ℕ, List, map, filter, Option, Some, None, option_and_then, if◌then◌else◌}
use Rattle.std.specs.List.{flat_map, filter_map}
use Rattle.mp_forms.specs.declared.factor.Factor.{Factor}
use Rattle.mp_forms.specs.declared.typed_values.Typed.{Typed}
use Rattle.mp_forms.specs.declared.schema_values.Schema.{Schema}
use Rattle.mp_typing.specs.Names.{names_of}
use Rattle.mp_typing.specs.Under.{is_of_type}
use Rattle.mp_typing.specs.ObjectList.{object_list}
use Rattle.mp_joint.specs.declared.fact.SignedFact.{SignedFact}
use Rattle.mp_joint.specs.declared.plan.PlanStep.{PlanStep}
use Rattle.mp_joint.specs.Fact.{Text}
use Rattle.mp_joint.specs.FactorContribution.{instance_of_schema}
use Rattle.mp_joint.specs.Grounded.{Setting, suits_start, needed, added, deleted}
use Rattle.mp_joint.specs.Instance.{Instance}
use Rattle.mp_bindings.specs.Bindings.{product}

-- an action with objects for its parameters, as a plan names it, and its instance
pub record GroundedStep : Type 0 where
  pub step : PlanStep
  pub instance : Instance

-- what an instance asks for and does once static preconditions are left out and complements are facts
pub record GroundedInstance : Type 0 where
  pub step : PlanStep
  pub cost : ℕ
  pub pre : List SignedFact
  pub add : List SignedFact
  pub del : List SignedFact

-- the objects that may stand for a parameter, in object order
abbrev pub members_by_name : Factor → Typed → List Text
members_by_name factor param =
    map (λ o. o.word.name)
    (filter (is_of_type factor.domain.types (names_of param.types)) (object_list factor.domain factor.problem))

-- an instance with the step that it stands for, where its static preconditions are as the start has them
abbrev pub step_with : Setting → PlanStep → Instance → Option GroundedStep
step_with setting step instance =
    if suits_start setting instance then Some (record { step = step; instance = instance }) else None

-- an action at these objects: none where that is no instance
abbrev pub grounded_at : ℕ → Factor → Setting → Schema → List Text → Option GroundedStep
grounded_at agent factor setting schema objects =
    option_and_then
    (step_with setting (record { agent = agent; action = schema.word.name; args = objects }))
    (instance_of_schema agent factor objects schema)

-- the instances of an action, by its objects in object order
abbrev pub grounded_of : ℕ → Factor → Setting → Schema → List GroundedStep
grounded_of agent factor setting schema =
    filter_map (grounded_at agent factor setting schema) (product (map (members_by_name factor) schema.params))

-- the instances of all actions, in the order of the file
abbrev pub grounded : ℕ → Factor → Setting → List GroundedStep
grounded agent factor setting = flat_map (grounded_of agent factor setting) factor.domain.schemas

abbrev pub grounded_instance : Setting → GroundedStep → GroundedInstance
grounded_instance setting g =
    record {
      step = g.step;
      cost = g.instance.cost;
      pre = needed setting g.instance;
      add = added setting g.instance;
      del = deleted setting g.instance;
    }
