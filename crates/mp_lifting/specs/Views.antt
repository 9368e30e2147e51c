-- What an agent knows of the predicates of its factor and of the start, by its own files and by what all agents show
-- of theirs.
use Rattle.std.specs.Prelude.{ℕ, Bool, not, List, [], ◌++◌, map, if◌then◌else◌}
use Rattle.std.specs.List.{flat_map}
use Rattle.std.specs.Option.{is_none}
use Rattle.mp_forms.specs.declared.atom_values.Atom.{Atom}
use Rattle.mp_forms.specs.declared.factor.Factor.{Factor}
use Rattle.mp_joint.specs.declared.fact.NamedFact.{NamedFact}
use Rattle.mp_joint.specs.Fact.{Text, is_listed, is_among}
use Rattle.mp_joint.specs.FactorContribution.{privates_of, facts_of}
use Rattle.mp_joint.specs.Grounded.{Setting}
use Rattle.mp_joint.specs.Grounding.{negated_atoms}
use Rattle.mp_lifting.specs.declared.view.OpenView.{OpenView}
use Rattle.mp_lifting.specs.Texts.{fact_text}

abbrev pub predicates_of : List Atom → List Text
predicates_of atoms = map (λ a. a.word.name) atoms

-- the predicates that stand in an effect of an action of the factor
abbrev pub changed_predicates : Factor → List Text
changed_predicates factor = flat_map (λ s. predicates_of s.add ++ predicates_of s.del) factor.domain.schemas

-- those that stand under `not` in a precondition or goal
abbrev pub negated_predicates : Factor → List Text
negated_predicates factor =
    flat_map (λ s. predicates_of (negated_atoms s.pre)) factor.domain.schemas
    ++ predicates_of (negated_atoms factor.problem.goals)

-- A predicate is one of these: of its own factor's where it is private, and else of those that the agents show.
abbrev pub is_of : List Text → List Text → List Text → Text → Bool
is_of privates own shown predicate =
    if is_listed predicate privates then is_listed predicate own else is_listed predicate shown

-- whether actions change the facts of a predicate, as far as an agent knows
abbrev pub is_changed : Factor → OpenView → Text → Bool
is_changed factor view = is_of (privates_of factor).predicates (changed_predicates factor) view.changed

-- whether the facts of a predicate have complements
abbrev pub has_complements : Factor → OpenView → Text → Bool
has_complements factor view = is_of (privates_of factor).predicates (negated_predicates factor) view.negated

-- a private fact is true at the start where its own factor says so, and a public one where some agent shows it
abbrev pub is_initial : ℕ → Factor → OpenView → NamedFact → Bool
is_initial agent factor view f =
    if is_none f.owner then is_listed (fact_text f) view.init
    else is_among f (facts_of agent factor [] [] factor.problem.init)

-- what an agent knows where it grounds its actions
abbrev pub setting_of : ℕ → Factor → OpenView → Setting
setting_of agent factor view =
    record {
      is_static = λ predicate. not (is_changed factor view predicate);
      is_negated = has_complements factor view;
      start = is_initial agent factor view;
    }
