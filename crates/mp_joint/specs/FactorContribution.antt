-- What one agent's factor brings into the united problem, read straight from its two files (factored MA-PDDL).
use Rattle.std.specs.Prelude.{ℕ, ◌+◌, ◌&&◌, Bool, true, false, List, [], ◌∷◌, ◌++◌, map, Option, None, option_and_then, find, filter, if◌then◌else◌}
use Rattle.std.specs.Option.{option_map, option_map_or}
use Rattle.std.specs.Str.{bytes_eq}
use Rattle.mp_forms.specs.declared.factor.Factor.{Factor}
use Rattle.mp_forms.specs.declared.typed_values.Typed.{Typed}
use Rattle.mp_forms.specs.declared.atom_values.Atom.{Atom}
use Rattle.mp_forms.specs.declared.schema_values.Schema.{Schema}
use Rattle.mp_typing.specs.Names.{names_of}
use Rattle.mp_typing.specs.Under.{is_of_type}
use Rattle.mp_typing.specs.ObjectList.{object_list}
use Rattle.mp_joint.specs.declared.fact.NamedFact.{NamedFact}
use Rattle.mp_joint.specs.Fact.{Text, Privates}
use Rattle.mp_joint.specs.Grounding.{asked_atoms, negated_atoms, fact_of, cost_of}
use Rattle.mp_joint.specs.Instance.{Instance}
use Rattle.mp_joint.specs.Plan.{Contribution}

-- constants and objects as they are declared
abbrev pub declared_objects : Factor → List Typed
declared_objects factor = factor.domain.constants ++ factor.problem.objects

-- the names that a factor keeps to itself
abbrev pub privates_of : Factor → Privates
privates_of factor =
    record {
      predicates = map (λ s. s.word.name) (filter (λ s. s.private) factor.domain.predicates);
      objects = map (λ o. o.word.name) (filter (λ o. o.private) (declared_objects factor));
    }

-- a declared object of this name is of the type of a parameter
abbrev pub may_stand : Factor → Typed → Text → Bool
may_stand factor param name =
    option_map_or (is_of_type factor.domain.types (names_of param.types)) (find (λ o. bytes_eq o.word.name name) (object_list factor.domain factor.problem)) false

-- the facts that atoms of a factor become, where these objects stand for these parameters
abbrev pub facts_of : ℕ → Factor → List Typed → List Text → List Atom → List NamedFact
facts_of agent factor params objects atoms = map (fact_of agent (privates_of factor) params objects) atoms

-- one member object for each parameter
abbrev pub may_stand_for : Factor → List Typed → List Text → Bool
may_stand_for factor [] [] = true
may_stand_for factor [] (o ∷ os) = false
may_stand_for factor (p ∷ ps) [] = false
may_stand_for factor (p ∷ ps) (o ∷ os) = may_stand factor p o && may_stand_for factor ps os

-- the instance of a schema at these objects, at a cost
abbrev pub instance_with : ℕ → Factor → Schema → List Text → ℕ → Instance
instance_with agent factor schema objects cost =
    record {
      positive = facts_of agent factor schema.params objects (asked_atoms schema.pre);
      negative = facts_of agent factor schema.params objects (negated_atoms schema.pre);
      add = facts_of agent factor schema.params objects schema.add;
      del = facts_of agent factor schema.params objects schema.del;
      cost = cost;
    }

-- an instance is an agent, a schema of its factor and one member object for each parameter, and has a cost
abbrev pub instance_of_schema : ℕ → Factor → List Text → Schema → Option Instance
instance_of_schema agent factor objects schema =
    if may_stand_for factor schema.params objects
    then option_map (instance_with agent factor schema objects) (cost_of factor.problem.metric factor.problem.values schema.params objects schema.increases)
    else None

abbrev pub instance_at : ℕ → Factor → Text → List Text → Option Instance
instance_at agent factor name objects =
    option_and_then (instance_of_schema agent factor objects) (find (λ s. bytes_eq s.word.name name) factor.domain.schemas)

-- what an agent contributes: its instances, and its initial facts and goals, which have no variables
abbrev pub factor_contribution : ℕ → Factor → Contribution
factor_contribution agent factor =
    record {
      instance_at = instance_at agent factor;
      init = facts_of agent factor [] [] factor.problem.init;
      goal = facts_of agent factor [] [] (asked_atoms factor.problem.goals);
      never = facts_of agent factor [] [] (negated_atoms factor.problem.goals);
    }

-- the contributions of agents that are numbered from this number on
abbrev pub contributions_from : ℕ → List Factor → List Contribution
contributions_from agent [] = []
contributions_from agent (factor ∷ factors) =
    factor_contribution agent factor ∷ contributions_from (agent + 1) factors

-- what the factors of a team's agents bring together, the first one being that of agent 1
abbrev pub team_of : List Factor → List Contribution
team_of factors = contributions_from 1 factors
