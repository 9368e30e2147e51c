-- The limits that a domain and a problem keep.
use Rattle.std.specs.Prelude.{ℕ, ◌≡◌, ◌≤◌, List, [], ◌∷◌, length, All, map}
use Rattle.mp_forms.specs.declared.atom_values.Term.{Term}
use Rattle.mp_forms.specs.declared.atom_values.Term.TheVariants.{Variable, Object}
use Rattle.mp_forms.specs.declared.atom_values.Atom.{Atom}
use Rattle.mp_forms.specs.declared.effect_values.Increase.{Increase}
use Rattle.mp_forms.specs.declared.effect_values.Increase.TheVariants.{Number, Function}
use Rattle.mp_forms.specs.declared.init_values.Value.{Value}
use Rattle.mp_forms.specs.declared.schema_values.Schema.{Schema}
use Rattle.mp_forms.specs.Numbers.{greatest_cost}
use Rattle.mp_forms.specs.FactorParts.{DomainParts, ProblemParts}

-- the most parameters and the most increases of an action
abbrev pub most_parameters : ℕ
most_parameters = 12

abbrev pub most_increases : ℕ
most_increases = 16

abbrev pub IsAllowedIncrease : Increase → Type 0
IsAllowedIncrease (Number cost) = cost ≤ greatest_cost
IsAllowedIncrease (Function atom) = Unit {0}

-- an action has at most 12 parameters and 16 increases, and none of its costs is above 1,000,000
pub record SchemaFits (schema : Schema) : Type 0 where
  pub params : length schema.params ≤ most_parameters
  pub increases : length schema.increases ≤ most_increases
  pub costs : All IsAllowedIncrease schema.increases

abbrev pub DomainFits : DomainParts → Type 0
DomainFits domain = All SchemaFits domain.schemas

-- a term and an atom without their places
abbrev pub name_of_term : Term → List ℕ
name_of_term (Variable word) = word.name
name_of_term (Object word) = word.name

abbrev pub names_of_atom : Atom → List (List ℕ)
names_of_atom atom = atom.word.name ∷ map name_of_term atom.terms

-- a function of these names has no other cost among these values
abbrev pub GivesNoOther : Value → Value → Type 0
GivesNoOther value other = names_of_atom value.of ≡ names_of_atom other.of → value.cost ≡ other.cost

abbrev pub HasOneCostEach : List Value → Type 0
HasOneCostEach [] = Unit {0}
HasOneCostEach (value ∷ values) = All (GivesNoOther value) values × HasOneCostEach values

-- no value is above 1,000,000, and a function has at most one
pub record ProblemFits (problem : ProblemParts) : Type 0 where
  pub costs : All (λ value. value.cost ≤ greatest_cost) problem.values
  pub one_each : HasOneCostEach problem.values
