-- What stands for a schema's parameters: instances of atoms and costs (PDDL 2.1 actions; PDDL 3.1 action costs).
use Rattle.std.specs.Prelude.{ℕ, ◌+◌, ◌&&◌, Bool, List, [], ◌∷◌, map, Option, Some, None, option_and_then, find, filter, not, codes, if◌then◌else◌}
use Rattle.std.specs.Cmp.Lexicographic.{pointwise}
use Rattle.std.specs.Option.{option_map}
use Rattle.std.specs.Str.{bytes_eq}
use Rattle.mp_forms.specs.declared.typed_values.Typed.{Typed}
use Rattle.mp_forms.specs.declared.atom_values.Term.{Term}
use Rattle.mp_forms.specs.declared.atom_values.Term.TheVariants.{Variable, Object}
use Rattle.mp_forms.specs.declared.atom_values.Atom.{Atom}
use Rattle.mp_forms.specs.declared.literal.Literal.{Literal}
use Rattle.mp_forms.specs.declared.effect_values.Increase.{Increase}
use Rattle.mp_forms.specs.declared.effect_values.Increase.TheVariants.{Number, Function}
use Rattle.mp_forms.specs.declared.init_values.Value.{Value}
use Rattle.mp_joint.specs.declared.fact.NamedFact.{NamedFact}
use Rattle.mp_joint.specs.Fact.{Text, Privates, named}

-- the object that stands for a variable: that at the place of the parameter of its name. A variable that is no
-- parameter, which a checked factor has not, stands for itself.
abbrev pub standing_for : List Typed → List Text → Text → Text
standing_for [] objects variable = variable
standing_for (p ∷ ps) [] variable = variable
standing_for (p ∷ ps) (o ∷ os) variable = if bytes_eq p.word.name variable then o else standing_for ps os variable

abbrev pub object_of : List Typed → List Text → Term → Text
object_of params objects (Variable word) = standing_for params objects word.name
object_of params objects (Object word) = word.name

abbrev pub objects_of : List Typed → List Text → List Term → List Text
objects_of params objects terms = map (object_of params objects) terms

-- the atoms that a condition asks for, and those that it has under `not`
abbrev pub asked_atoms : List Literal → List Atom
asked_atoms literals = map (λ l. l.atom) (filter (λ l. l.positive) literals)

abbrev pub negated_atoms : List Literal → List Atom
negated_atoms literals = map (λ l. l.atom) (filter (λ l. not l.positive) literals)

-- the fact that an atom becomes
abbrev pub fact_of : ℕ → Privates → List Typed → List Text → Atom → NamedFact
fact_of agent privates params objects atom = named agent privates atom.word.name (objects_of params objects atom.terms)

-- a value is that of a function at some objects
abbrev pub gives : Text → List Text → Value → Bool
gives function objects value =
    bytes_eq value.of.word.name function && pointwise bytes_eq (objects_of [] [] value.of.terms) objects

-- the value of a function at some objects: none where it has none, and none for the total cost
abbrev pub value_of : List Value → Text → List Text → Option ℕ
value_of values function objects =
    if bytes_eq function (codes "total-cost") then None else option_map (λ v. v.cost) (find (gives function objects) values)

abbrev pub amount_of : List Value → List Typed → List Text → Increase → Option ℕ
amount_of values params objects (Number cost) = Some cost
amount_of values params objects (Function function) = value_of values function.word.name (objects_of params objects function.terms)

-- the sum of increases: none where a value is missing
abbrev pub total_of : List Value → List Typed → List Text → List Increase → Option ℕ
total_of values params objects [] = Some 0
total_of values params objects (i ∷ is) =
    option_and_then (λ a. option_map (λ rest. a + rest) (total_of values params objects is)) (amount_of values params objects i)

-- The cost rule: without a metric each instance costs 1; with one the cost is the sum of the increases, and there is
-- no instance where a value is missing.
abbrev pub cost_of : Bool → List Value → List Typed → List Text → List Increase → Option ℕ
cost_of metric values params objects increases = if metric then total_of values params objects increases else Some 1
