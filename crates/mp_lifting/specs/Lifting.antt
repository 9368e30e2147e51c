-- Atoms and actions in numbers.
use Rattle.std.specs.Prelude.{ℕ, Bool, not, List, [], ◌∷◌, map, filter, codes, if◌then◌else◌}
use Rattle.std.specs.List.{position_or_len}
use Rattle.std.specs.Str.{bytes_eq}
use Rattle.mp_forms.specs.declared.typed_values.Typed.{Typed}
use Rattle.mp_forms.specs.declared.atom_values.Term.{Term}
use Rattle.mp_forms.specs.declared.atom_values.Term.TheVariants as terms
use Rattle.mp_forms.specs.declared.atom_values.Atom.{Atom}
use Rattle.mp_forms.specs.declared.effect_values.Increase.{Increase}
use Rattle.mp_forms.specs.declared.effect_values.Increase.TheVariants as increases
use Rattle.mp_forms.specs.declared.schema_values.Schema.{Schema}
use Rattle.mp_forms.specs.declared.factor.Factor.{Factor}
use Rattle.mp_sexp.specs.Numbers.{number_in}
use Rattle.mp_typing.specs.Names.{names_of}
use Rattle.mp_typing.specs.ObjectList.{object_list}
use Rattle.mp_typing.specs.Places.{numbers_where}
use Rattle.mp_typing.specs.Under.{is_of_type}
use Rattle.mp_joint.specs.Fact.{Text}
use Rattle.mp_joint.specs.Grounding.{asked_atoms, negated_atoms}
use Rattle.mp_lifted.specs.declared.lifted.LiftedTerm.{LiftedTerm}
use Rattle.mp_lifted.specs.declared.lifted.LiftedTerm.TheVariants.{Parameter, Object}
use Rattle.mp_lifted.specs.declared.lifted.LiftedAtom.{LiftedAtom}
use Rattle.mp_lifted.specs.declared.lifted.Amount.{Amount}
use Rattle.mp_lifted.specs.declared.lifted.Amount.TheVariants.{Number, Value, Missing}
use Rattle.mp_lifted.specs.declared.lifted.LiftedAction.{LiftedAction}
use Rattle.mp_lifting.specs.declared.vocabulary.Vocabulary.{Vocabulary}

-- the place of the parameter with a name
abbrev pub parameter_in : List Typed → Text → ℕ
parameter_in params name = position_or_len (λ p. bytes_eq p.word.name name) params

abbrev pub lifted_term : Vocabulary → List Typed → Term → LiftedTerm
lifted_term vocabulary params (terms.Variable word) = Parameter (parameter_in params word.name)
lifted_term vocabulary params (terms.Object word) = Object (number_in vocabulary.objects word.name)

-- an atom whose first word is one of these names: a predicate, or a function
abbrev pub lifted_with : List Text → Vocabulary → List Typed → Atom → LiftedAtom
lifted_with names vocabulary params atom =
    record {
      symbol = number_in names atom.word.name;
      terms = map (lifted_term vocabulary params) atom.terms;
    }

abbrev pub lifted_atom : Vocabulary → List Typed → Atom → LiftedAtom
lifted_atom vocabulary params atom = lifted_with vocabulary.predicates vocabulary params atom

abbrev pub is_total_cost : Atom → Bool
is_total_cost function = bytes_eq function.word.name (codes "total-cost")

abbrev pub lifted_amount : Vocabulary → List Typed → Increase → Amount
lifted_amount vocabulary params (increases.Number cost) = Number cost
lifted_amount vocabulary params (increases.Function function) =
    if is_total_cost function then Missing
    else Value (lifted_with vocabulary.functions vocabulary params function)

-- what the cost of an action is the sum of: 1 without a metric
abbrev pub amounts_of : Vocabulary → Bool → Schema → List Amount
amounts_of vocabulary metric schema =
    if metric then map (lifted_amount vocabulary schema.params) schema.increases else Number 1 ∷ []

-- the numbers of the objects that may stand for a parameter
abbrev pub members_of : Factor → Typed → List ℕ
members_of factor param =
    numbers_where 0 (is_of_type factor.domain.types (names_of param.types))
    (object_list factor.domain factor.problem)

-- the atoms whose predicates pass a test, in numbers
abbrev pub lifted_where : Vocabulary → (Text → Bool) → List Typed → List Atom → List LiftedAtom
lifted_where vocabulary test params atoms =
    map (lifted_atom vocabulary params) (filter (λ a. test a.word.name) atoms)

abbrev pub is_not : (Text → Bool) → Text → Bool
is_not test name = not (test name)

-- an action, where these predicates are changed by actions
abbrev pub lifted_action : Vocabulary → (Text → Bool) → Factor → Schema → LiftedAction
lifted_action vocabulary changed factor schema =
    record {
      members = map (members_of factor) schema.params;
      static_positive = lifted_where vocabulary (is_not changed) schema.params (asked_atoms schema.pre);
      static_negative = lifted_where vocabulary (is_not changed) schema.params (negated_atoms schema.pre);
      positive = lifted_where vocabulary changed schema.params (asked_atoms schema.pre);
      negative = lifted_where vocabulary changed schema.params (negated_atoms schema.pre);
      add = map (lifted_atom vocabulary schema.params) schema.add;
      del = map (lifted_atom vocabulary schema.params) schema.del;
      amounts = amounts_of vocabulary factor.problem.metric schema;
    }
