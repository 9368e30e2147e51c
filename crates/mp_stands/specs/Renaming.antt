-- A factor whose private names, and those of its actions, are other ones. Its lists keep their order; the places in the
-- file may be others.
use Rattle.std.specs.Prelude.{◌≡◌, true, not, List, [], map, filter}
use Rattle.mp_sexp.specs.declared.tree.Place.{Place}
use Rattle.mp_forms.specs.Words.{is_fixed}
use Rattle.mp_forms.specs.FactorParts.{DomainParts, ProblemParts}
use Rattle.mp_forms.specs.declared.word.Word.{Word}
use Rattle.mp_forms.specs.declared.typed_values.Typed.{Typed}
use Rattle.mp_forms.specs.declared.signature_values.Signature.{Signature}
use Rattle.mp_forms.specs.declared.atom_values.Term.{Term}
use Rattle.mp_forms.specs.declared.atom_values.Term.TheVariants.{Variable, Object}
use Rattle.mp_forms.specs.declared.atom_values.Atom.{Atom}
use Rattle.mp_forms.specs.declared.literal.Literal.{Literal}
use Rattle.mp_forms.specs.declared.effect_values.Increase.{Increase}
use Rattle.mp_forms.specs.declared.effect_values.Increase.TheVariants.{Number, Function}
use Rattle.mp_forms.specs.declared.init_values.Value.{Value}
use Rattle.mp_forms.specs.declared.schema_values.Schema.{Schema}
use Rattle.mp_forms.specs.declared.factor.Factor.{Factor}
use Rattle.mp_joint.specs.Fact.{Text, is_listed}
use Rattle.mp_joint.specs.FactorContribution.{declared_objects}

-- other names: for objects, predicates, functions and actions
pub record Renaming : Type 0 where
  pub objects : Text → Text
  pub predicates : Text → Text
  pub functions : Text → Text
  pub actions : Text → Text

-- each name for itself
abbrev pub same_names : Renaming
same_names = record {
  objects = λ name. name;
  predicates = λ name. name;
  functions = λ name. name;
  actions = λ name. name;
}

-- ---- a factor with other names, each word without its place

abbrev pub nowhere : Place
nowhere = record { line = 0; column = 0 }

abbrev pub named : Text → Word
named name = record { name = name; at = nowhere }

-- a word with its own name
abbrev pub kept_word : Word → Word
kept_word w = named w.name

abbrev pub renamed_word : (Text → Text) → Word → Word
renamed_word other w = named (other w.name)

-- a type, object or parameter; names of types stay
abbrev pub renamed_typed : (Text → Text) → Typed → Typed
renamed_typed other t =
    record { word = renamed_word other t.word; types = map kept_word t.types; private = t.private }

abbrev pub kept_typed : Typed → Typed
kept_typed t = renamed_typed (λ name. name) t

abbrev pub renamed_signature : (Text → Text) → Signature → Signature
renamed_signature other s =
    record { word = renamed_word other s.word; params = map kept_typed s.params; private = s.private }

module _ (r : Renaming) where
  -- variables stay
  abbrev pub renamed_term : Term → Term
  renamed_term (Variable w) = Variable (kept_word w)
  renamed_term (Object w) = Object (renamed_word r.objects w)

  -- an atom of a predicate, or of a function
  abbrev pub renamed_atom : (Text → Text) → Atom → Atom
  renamed_atom other a = record { word = renamed_word other a.word; terms = map renamed_term a.terms }

  abbrev pub renamed_fact : Atom → Atom
  renamed_fact a = renamed_atom r.predicates a

  abbrev pub renamed_literal : Literal → Literal
  renamed_literal l = record { positive = l.positive; atom = renamed_fact l.atom }

  abbrev pub renamed_increase : Increase → Increase
  renamed_increase (Number cost) = Number cost
  renamed_increase (Function function) = Function (renamed_atom r.functions function)

  abbrev pub renamed_value : Value → Value
  renamed_value v = record { of = renamed_atom r.functions v.of; cost = v.cost }

  abbrev pub renamed_schema : Schema → Schema
  renamed_schema s = record {
    word = renamed_word r.actions s.word;
    params = map kept_typed s.params;
    pre = map renamed_literal s.pre;
    add = map renamed_fact s.add;
    del = map renamed_fact s.del;
    increases = map renamed_increase s.increases;
  }

  abbrev pub renamed_domain : DomainParts → DomainParts
  renamed_domain d = record {
    word = kept_word d.word;
    types = map kept_typed d.types;
    constants = map (renamed_typed r.objects) d.constants;
    predicates = map (renamed_signature r.predicates) d.predicates;
    functions = map (renamed_signature r.functions) d.functions;
    schemas = map renamed_schema d.schemas;
  }

  abbrev pub renamed_problem : ProblemParts → ProblemParts
  renamed_problem p = record {
    word = kept_word p.word;
    domain = kept_word p.domain;
    objects = map (renamed_typed r.objects) p.objects;
    init = map renamed_fact p.init;
    values = map renamed_value p.values;
    goals = map renamed_literal p.goals;
    metric = p.metric;
  }

  abbrev pub renamed : Factor → Factor
  renamed f = record { domain = renamed_domain f.domain; problem = renamed_problem f.problem }

-- ---- which names may change, and to which

abbrev pub IsOneToOne : (Text → Text) → Type 0
IsOneToOne other = (a b : Text) → other a ≡ other b → a ≡ b

-- the names of a list stay
abbrev pub Fixes : List Text → (Text → Text) → Type 0
Fixes names other = (name : Text) → is_listed name names ≡ true → other name ≡ name

-- the words that PDDL keeps for itself stay
abbrev pub FixesWords : (Text → Text) → Type 0
FixesWords other = (name : Text) → is_fixed name ≡ true → other name ≡ name

abbrev pub public_objects : Factor → List Text
public_objects f = map (λ o. o.word.name) (filter (λ o. not o.private) (declared_objects f))

abbrev pub public_signatures : List Signature → List Text
public_signatures signatures = map (λ s. s.word.name) (filter (λ s. not s.private) signatures)

-- Names of one kind: no two become one, and public names and the words of PDDL stay. So no private name becomes a public
-- one, or a word of PDDL.
pub record IsRenamingOf (publics : List Text) (other : Text → Text) : Type 0 where
  pub one_to_one : IsOneToOne other
  pub publics_stay : Fixes publics other
  pub words_stay : FixesWords other

-- a renaming of a factor changes private objects, predicates and functions, and actions
pub record IsRenaming (f : Factor) (r : Renaming) : Type 0 where
  pub objects : IsRenamingOf (public_objects f) r.objects
  pub predicates : IsRenamingOf (public_signatures f.domain.predicates) r.predicates
  pub functions : IsRenamingOf (public_signatures f.domain.functions) r.functions
  pub actions : IsRenamingOf [] r.actions

-- places left aside, a factor is another one with its names renamed
abbrev pub IsRenamed : Renaming → Factor → Factor → Type 0
IsRenamed r f other = renamed same_names other ≡ renamed r f
