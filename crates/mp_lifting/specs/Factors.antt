-- A factor in numbers.
use Rattle.std.specs.Prelude.{◌-◌, ◌==◌, Bool, false, not, ◌&&◌, List, [], ◌∷◌, ◌++◌, map, filter, length, take, drop, Option, Some, None, codes, if◌then◌else◌}
use Rattle.std.specs.List.{list_all, slice_split, filter_map}
use Rattle.std.specs.Str.{bytes_eq}
use Rattle.mp_forms.specs.Limits.{name_of_term}
use Rattle.mp_forms.specs.declared.atom_values.Atom.{Atom}
use Rattle.mp_forms.specs.declared.init_values.Value.{Value}
use Rattle.mp_forms.specs.declared.factor.Factor.{Factor}
use Rattle.mp_sexp.specs.Numbers.{number_in}
use Rattle.mp_joint.specs.Fact.{Text, is_listed}
use Rattle.mp_joint.specs.FactorContribution.{privates_of}
use Rattle.mp_joint.specs.Grounding.{asked_atoms, negated_atoms}
use Rattle.mp_lifted.specs.declared.lifted.GroundAtom.{GroundAtom}
use Rattle.mp_lifted.specs.declared.lifted.GroundValue.{GroundValue}
use Rattle.mp_lifted.specs.declared.lifted.LiftedFactor.{LiftedFactor}
use Rattle.mp_lifting.specs.declared.view.OpenView.{OpenView}
use Rattle.mp_lifting.specs.Lifting.{is_total_cost, lifted_action}
use Rattle.mp_lifting.specs.Privates.{is_private_atom}
use Rattle.mp_lifting.specs.Views.{is_changed, has_complements}
use Rattle.mp_lifting.specs.declared.vocabulary.Vocabulary.{Vocabulary}
use Rattle.mp_lifting.specs.Vocabulary.{vocabulary_of}

-- names at these places of the vocabulary; the first is one of the given ones, a predicate or a function
abbrev pub ground_with : List Text → Vocabulary → Text → List Text → GroundAtom
ground_with names vocabulary symbol args =
    record { symbol = number_in names symbol; args = map (number_in vocabulary.objects) args }

-- an atom without parameters
abbrev pub ground_atom : Vocabulary → Atom → GroundAtom
ground_atom vocabulary atom =
    ground_with vocabulary.predicates vocabulary atom.word.name (map name_of_term atom.terms)

abbrev pub ground_value : Vocabulary → Value → GroundValue
ground_value vocabulary value =
    record {
      of = ground_with vocabulary.functions vocabulary value.of.word.name (map name_of_term value.of.terms);
      cost = value.cost;
    }

-- ---- public facts that agents show

-- what stands between the brackets of a text
abbrev pub between_brackets : Text → Text
between_brackets text = take (length text - 2) (drop 1 text)

abbrev pub has_brackets : Text → Bool
has_brackets text = bytes_eq (codes "(" ++ between_brackets text ++ codes ")") text

-- the words of a text, each two with a space between them
abbrev pub words_of : Text → List Text
words_of text = slice_split (λ b. b == 32) (between_brackets text)

-- a predicate and objects of the vocabulary
abbrev pub can_be_named : Vocabulary → List Text → Bool
can_be_named vocabulary [] = false
can_be_named vocabulary (predicate ∷ objects) =
    is_listed predicate vocabulary.predicates && list_all (λ o. is_listed o vocabulary.objects) objects

abbrev pub named_atom : Vocabulary → List Text → GroundAtom
named_atom vocabulary [] = record { symbol = 0; args = [] }
named_atom vocabulary (predicate ∷ objects) = ground_with vocabulary.predicates vocabulary predicate objects

-- the fact that a text spells: none where it spells none, or the vocabulary has a name not
abbrev pub known_atom : Vocabulary → Text → Option GroundAtom
known_atom vocabulary text =
    if has_brackets text && can_be_named vocabulary (words_of text)
    then Some (named_atom vocabulary (words_of text)) else None

abbrev pub known_atoms : Vocabulary → List Text → List GroundAtom
known_atoms vocabulary texts = filter_map (known_atom vocabulary) texts

-- ---- the factor

-- The factor in numbers, as an agent knows it that has seen this of the other agents.
abbrev pub lifted_factor : Factor → OpenView → LiftedFactor
lifted_factor factor view =
    let vocabulary = vocabulary_of factor in
    let privates = privates_of factor in
    record {
      private_predicates = map (λ p. is_listed p privates.predicates) vocabulary.predicates;
      negated_predicates = map (has_complements factor view) vocabulary.predicates;
      private_objects = map (λ o. is_listed o privates.objects) vocabulary.objects;
      actions = map (lifted_action vocabulary (is_changed factor view) factor) factor.domain.schemas;
      init = map (ground_atom vocabulary) (filter (is_private_atom privates) factor.problem.init);
      known = known_atoms vocabulary view.init;
      goals = map (ground_atom vocabulary) (asked_atoms factor.problem.goals);
      avoided = map (ground_atom vocabulary) (negated_atoms factor.problem.goals);
      values = map (ground_value vocabulary) (filter (λ v. not (is_total_cost v.of)) factor.problem.values);
    }
