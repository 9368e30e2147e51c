-- What a domain and a problem say word by word: words that are used as names or as variables, and costs.
use Rattle.std.specs.Prelude.{ℕ, ◌≤◌, IsTrue, ◌||◌, List, [], ◌∷◌, ◌++◌, map, All, Contains}
use Rattle.std.specs.List.{flat_map}
use Rattle.mp_sexp.specs.Node.{Node}
use Rattle.mp_forms.specs.declared.word.Word.{Word}
use Rattle.mp_forms.specs.declared.typed_values.Typed.{Typed}
use Rattle.mp_forms.specs.declared.signature_values.Signature.{Signature}
use Rattle.mp_forms.specs.declared.atom_values.Term.{Term}
use Rattle.mp_forms.specs.declared.atom_values.Term.TheVariants.{Variable, Object}
use Rattle.mp_forms.specs.declared.atom_values.Atom.{Atom}
use Rattle.mp_forms.specs.declared.literal.Literal.{Literal}
use Rattle.mp_forms.specs.declared.effect_values.Increase.{Increase}
use Rattle.mp_forms.specs.declared.effect_values.Increase.TheVariants.{Number, Function}
use Rattle.mp_forms.specs.declared.init_values.Value.{Value}
use Rattle.mp_forms.specs.declared.schema_values.Schema.{Schema}
use Rattle.mp_forms.specs.Kinds.{is_name, is_variable}
use Rattle.mp_forms.specs.Numbers.{greatest_cost}
use Rattle.mp_forms.specs.FactorParts.{DomainParts, ProblemParts}
use Rattle.mp_forms.specs.Written.{words_of, IsWrittenCost}

-- a word where PDDL has a name, a word where it has a variable, and a cost
pub data Use : Type 0 where
  as_name : Word → Use
  as_variable : Word → Use
  as_cost : ℕ → Use

-- a type or an object: its name, and the names of its types
abbrev pub object_uses : Typed → List Use
object_uses typed = as_name typed.word ∷ map as_name typed.types

abbrev pub parameter_uses : Typed → List Use
parameter_uses typed = as_variable typed.word ∷ map as_name typed.types

-- a predicate or function: its name, and its parameters
abbrev pub signature_uses : Signature → List Use
signature_uses signature = as_name signature.word ∷ flat_map parameter_uses signature.params

abbrev pub term_use : Term → Use
term_use (Variable word) = as_variable word
term_use (Object word) = as_name word

abbrev pub atom_uses : Atom → List Use
atom_uses atom = as_name atom.word ∷ map term_use atom.terms

abbrev pub literal_uses : Literal → List Use
literal_uses literal = atom_uses literal.atom

abbrev pub increase_uses : Increase → List Use
increase_uses (Number cost) = as_cost cost ∷ []
increase_uses (Function atom) = atom_uses atom

abbrev pub value_uses : Value → List Use
value_uses value = as_cost value.cost ∷ atom_uses value.of

-- an action: its name, parameters, literals, adds, deletes and increases
abbrev pub schema_uses : Schema → List Use
schema_uses schema =
    as_name schema.word
    ∷ (flat_map parameter_uses schema.params
    ++ (flat_map literal_uses schema.pre
    ++ (flat_map atom_uses schema.add
    ++ (flat_map atom_uses schema.del
    ++ flat_map increase_uses schema.increases))))

abbrev pub domain_uses : DomainParts → List Use
domain_uses domain =
    as_name domain.word
    ∷ (flat_map object_uses domain.types
    ++ (flat_map object_uses domain.constants
    ++ (flat_map signature_uses domain.predicates
    ++ (flat_map signature_uses domain.functions
    ++ flat_map schema_uses domain.schemas))))

abbrev pub problem_uses : ProblemParts → List Use
problem_uses problem =
    as_name problem.word
    ∷ as_name problem.domain
    ∷ (flat_map object_uses problem.objects
    ++ (flat_map atom_uses problem.init
    ++ (flat_map value_uses problem.values
    ++ flat_map literal_uses problem.goals)))

-- the words among what is used
abbrev pub words_in : Use → List Word
words_in (as_name word) = word ∷ []
words_in (as_variable word) = word ∷ []
words_in (as_cost cost) = []

abbrev pub words_of_domain : DomainParts → List Word
words_of_domain domain = flat_map words_in (domain_uses domain)

abbrev pub words_of_problem : ProblemParts → List Word
words_of_problem problem = flat_map words_in (problem_uses problem)

-- ---- names are names

abbrev pub IsName : Word → Type 0
IsName word = IsTrue (is_name word.name)

abbrev pub IsVariable : Word → Type 0
IsVariable word = IsTrue (is_variable word.name)

abbrev pub IsNameOrVariable : Word → Type 0
IsNameOrVariable word = IsTrue (is_name word.name || is_variable word.name)

abbrev pub IsRight : Use → Type 0
IsRight (as_name word) = IsName word
IsRight (as_variable word) = IsVariable word
IsRight (as_cost cost) = Unit {0}

-- where PDDL has a name there is one, and where it has a variable there is a variable
abbrev pub DomainIsNamed : DomainParts → Type 0
DomainIsNamed domain = All IsRight (domain_uses domain)

abbrev pub ProblemIsNamed : ProblemParts → Type 0
ProblemIsNamed problem = All IsRight (problem_uses problem)

-- ---- that they are written in the file

-- a word with its place is a word of the file, and is what it is used as; a cost is what a word of the file says, and at
-- most the greatest one
abbrev pub IsTaken : Node → Use → Type 0
IsTaken node (as_name word) = Contains (words_of node) word × IsName word
IsTaken node (as_variable word) = Contains (words_of node) word × IsVariable word
IsTaken node (as_cost cost) = IsWrittenCost node cost × (cost ≤ greatest_cost)

abbrev pub DomainIsTaken : Node → DomainParts → Type 0
DomainIsTaken node domain = All (IsTaken node) (domain_uses domain)

abbrev pub ProblemIsTaken : Node → ProblemParts → Type 0
ProblemIsTaken node problem = All (IsTaken node) (problem_uses problem)
