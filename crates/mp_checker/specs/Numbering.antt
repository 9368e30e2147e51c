-- Atoms and actions of a factor in numbers: names by their places among the names of the team.
use Rattle.std.specs.Prelude.{ℕ, Bool, true, false, List, [], ◌∷◌, map, fold, length, position, replicate, slice_set, codes, if◌then◌else◌, Option}
use Rattle.std.specs.Option.{option_map_or}
use Rattle.std.specs.Str.{bytes_eq}
use Rattle.mp_forms.specs.declared.typed_values.Typed.{Typed}
use Rattle.mp_forms.specs.declared.atom_values.Term.{Term}
use Rattle.mp_forms.specs.declared.atom_values.Term.TheVariants as terms
use Rattle.mp_forms.specs.declared.atom_values.Atom.{Atom}
use Rattle.mp_forms.specs.declared.literal.Literal.{Literal}
use Rattle.mp_forms.specs.declared.effect_values.Increase.{Increase}
use Rattle.mp_forms.specs.declared.effect_values.Increase.TheVariants as increases
use Rattle.mp_forms.specs.declared.schema_values.Schema.{Schema}
use Rattle.mp_forms.specs.declared.factor.Factor.{Factor}
use Rattle.mp_sexp.specs.Numbers.{number_in}
use Rattle.mp_typing.specs.Names.{names_of}
use Rattle.mp_typing.specs.ObjectList.{object_list}
use Rattle.mp_typing.specs.Places.{numbers_where}
use Rattle.mp_typing.specs.Under.{is_of_type}
use Rattle.mp_joint.specs.Fact.{Text, Privates, is_listed}
use Rattle.mp_joint.specs.FactorContribution.{privates_of}
use Rattle.mp_checker.specs.declared.numbered.ObjectNumber.{ObjectNumber}
use Rattle.mp_checker.specs.declared.numbered.TermNumber.{TermNumber}
use Rattle.mp_checker.specs.declared.numbered.TermNumber.TheVariants.{Parameter, Object}
use Rattle.mp_checker.specs.declared.numbered.NumberedAtom.{NumberedAtom}
use Rattle.mp_checker.specs.declared.numbered.NumberedLiteral.{NumberedLiteral}
use Rattle.mp_checker.specs.declared.numbered.Amount.{Amount}
use Rattle.mp_checker.specs.declared.numbered.Amount.TheVariants.{Number, Value, Missing}
use Rattle.mp_checker.specs.declared.numbered.NumberedAction.{NumberedAction}

-- the place of the parameter with a name
abbrev pub parameter_in : List Typed → Text → Option ℕ
parameter_in params name = position (λ p. bytes_eq p.word.name name) params

abbrev pub object_number : List Text → Privates → Text → ObjectNumber
object_number names privates name =
    record { number = number_in names name; private = is_listed name privates.objects }

-- a variable that is no parameter, which a checked factor has not, stands for itself
abbrev pub term_number : List Text → Privates → List Typed → Term → TermNumber
term_number names privates params (terms.Variable word) =
    option_map_or (λ place. Parameter place) (parameter_in params word.name) (Object (object_number names privates word.name))
term_number names privates params (terms.Object word) = Object (object_number names privates word.name)

abbrev pub numbered_atom : List Text → Privates → List Typed → Atom → NumberedAtom
numbered_atom names privates params atom =
    record {
      symbol = number_in names atom.word.name;
      private = is_listed atom.word.name privates.predicates;
      terms = map (term_number names privates params) atom.terms;
    }

abbrev pub numbered_literal : List Text → Privates → List Typed → Literal → NumberedLiteral
numbered_literal names privates params literal =
    record { positive = literal.positive; atom = numbered_atom names privates params literal.atom }

abbrev pub is_total_cost : Atom → Bool
is_total_cost function = bytes_eq function.word.name (codes "total-cost")

abbrev pub amount : List Text → Privates → List Typed → Increase → Amount
amount names privates params (increases.Number cost) = Number cost
amount names privates params (increases.Function function) =
    if is_total_cost function then Missing else Value (numbered_atom names privates params function)

-- what the cost of an action is the sum of: 1 without a metric
abbrev pub amounts : List Text → Privates → Bool → Schema → List Amount
amounts names privates metric schema =
    if metric then map (amount names privates schema.params) schema.increases else Number 1 ∷ []

-- of so many objects those flags that these numbers have
abbrev pub flags_at : ℕ → List ℕ → List Bool
flags_at count numbers = fold (λ flags number. slice_set flags number true) (replicate count false) numbers

-- for each object whether it may stand for a parameter
abbrev pub member_flags : Factor → Typed → List Bool
member_flags factor param =
    let objects = object_list factor.domain factor.problem in
    flags_at (length objects) (numbers_where 0 (is_of_type factor.domain.types (names_of param.types)) objects)

abbrev pub numbered_action : List Text → Factor → Schema → NumberedAction
numbered_action names factor schema =
    let privates = privates_of factor in
    record {
      members = map (member_flags factor) schema.params;
      pre = map (numbered_literal names privates schema.params) schema.pre;
      add = map (numbered_atom names privates schema.params) schema.add;
      del = map (numbered_atom names privates schema.params) schema.del;
      amounts = amounts names privates factor.problem.metric schema;
    }
