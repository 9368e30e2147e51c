-- What stands in numbers, and the facts and instances by names that it stands for.
use Rattle.std.specs.Prelude.{ℕ, ◌≡◌, ◌<◌, not, List, map, length, All, Some, slice_get, ◌↔◌, Contains}
use Rattle.std.specs.List.Sorted.{IsStrictlySortedBy}
use Rattle.mp_forms.specs.declared.factor.Factor.{Factor}
use Rattle.mp_forms.specs.declared.typed_values.Typed.{Typed}
use Rattle.mp_forms.specs.declared.schema_values.Schema.{Schema}
use Rattle.mp_sexp.specs.Numbers.{name_at}
use Rattle.mp_joint.specs.declared.fact.NamedFact.{NamedFact}
use Rattle.mp_joint.specs.declared.fact.SignedFact.{SignedFact}
use Rattle.mp_joint.specs.Fact.{named}
use Rattle.mp_joint.specs.FactorContribution.{privates_of}
use Rattle.mp_lifted.specs.declared.lifted.GroundAtom.{GroundAtom}
use Rattle.mp_lifted.specs.declared.lifted.LiftedAction.{LiftedAction}
use Rattle.mp_lifted.specs.declared.lifted.LiftedFactor.{LiftedFactor}
use Rattle.mp_lifting.specs.declared.view.OpenView.{OpenView}
use Rattle.mp_lifting.specs.Factors.{lifted_factor}
use Rattle.mp_lifting.specs.Lifting.{lifted_action}
use Rattle.mp_lifting.specs.Views.{is_changed}
use Rattle.mp_lifting.specs.Vocabulary.{vocabulary_of}
use Rattle.mp_lifted.specs.Binding.{ActionBinding}
use Rattle.mp_lifted.specs.Start.{is_private}
use Rattle.mp_instances.specs.Instances.{instances}
use Rattle.mp_ground_facts.specs.declared.fact.GroundFact.{GroundFact}
use Rattle.mp_ground_facts.specs.Facts.{atom_of, fact_cmp}
use Rattle.mp_ground_facts.specs.Touched.{of_action, needed, added, deleted, counted}
use Rattle.mp_ground_laws.specs.Grounding.{GroundedInstance}
use Rattle.mp_ground_laws.specs.Named.{named_objects, step_of}

-- ---- what numbers stand for

-- the fact of an agent that an atom stands for
abbrev pub named_fact : ℕ → Factor → GroundAtom → NamedFact
named_fact agent factor a =
    named agent (privates_of factor) (name_at (vocabulary_of factor).predicates a.symbol) (named_objects factor a.args)

-- a fact, or the complement of one
abbrev pub signed_fact : ℕ → Factor → GroundFact → SignedFact
signed_fact agent factor f =
    record { positive = not f.is_complement; fact = named_fact agent factor (atom_of f) }

-- an instance
abbrev pub named_instance : ℕ → Factor → LiftedFactor → ActionBinding → GroundedInstance
named_instance agent factor lifted i =
    record {
      step = step_of agent factor i;
      cost = i.cost;
      pre = map (signed_fact agent factor) (of_action lifted needed i);
      add = map (signed_fact agent factor) (of_action lifted added i);
      del = map (signed_fact agent factor) (of_action lifted deleted i);
    }

-- ---- numbers of a factor

-- an object's number is below their count
abbrev pub IsObject : Factor → ℕ → Type 0
IsObject factor number = number < length (vocabulary_of factor).objects

-- the numbers of an atom are those of a predicate and of objects
pub record IsInRange (factor : Factor) (a : GroundAtom) : Type 0 where
  pub symbol : a.symbol < length (vocabulary_of factor).predicates
  pub args : All (IsObject factor) a.args

-- objects of the factor, one for each parameter
pub record IsBinding (factor : Factor) (params : List Typed) (objects : List ℕ) : Type 0 where
  pub long : length objects ≡ length params
  pub range : All (IsObject factor) objects

-- an action of the factor, in numbers
abbrev pub numbered_action : Factor → OpenView → Schema → LiftedAction
numbered_action factor view schema =
    lifted_action (vocabulary_of factor) (is_changed factor view) factor schema

-- an instance in numbers is an action of the factor at objects, one for each parameter
pub record IsInstance (factor : Factor) (i : ActionBinding) : Type 0 where
  pub schema : Schema
  pub at : slice_get factor.domain.schemas i.action ≡ Some schema
  pub objects : IsBinding factor schema.params i.objects

-- a fact in numbers is in range, and it is public where the factor has nothing of it private
pub record IsOfFactor (factor : Factor) (view : OpenView) (f : GroundFact) : Type 0 where
  pub range : IsInRange factor (atom_of f)
  pub public : f.is_public ≡ not (is_private (lifted_factor factor view) (atom_of f))

-- facts in numbers that rise, and that are what some instance touches or a goal names
pub record AreNumbered (factor : Factor) (view : OpenView) (facts : List GroundFact) : Type 0 where
  pub rising : IsStrictlySortedBy fact_cmp facts
  pub exact
      : (f : GroundFact)
      → Contains facts f ↔ Contains (counted (lifted_factor factor view) (instances (lifted_factor factor view))) f
