-- Which predicates never change, and which have complements (by predicate, as the actions and goals of a team are
-- written, not by fact: a fact of a public predicate may be private to an agent for one of its arguments).
use Rattle.std.specs.Prelude.{◌&&◌, ◌||◌, not, Bool, List, if◌then◌else◌}
use Rattle.std.specs.List.{list_any}
use Rattle.std.specs.Str.{bytes_eq}
use Rattle.mp_forms.specs.declared.factor.Factor.{Factor}
use Rattle.mp_forms.specs.declared.atom_values.Atom.{Atom}
use Rattle.mp_joint.specs.Fact.{Text, is_listed}
use Rattle.mp_joint.specs.Grounding.{negated_atoms}
use Rattle.mp_joint.specs.FactorContribution.{privates_of}

-- an atom of this predicate is among these
abbrev pub stands_in : Text → List Atom → Bool
stands_in predicate atoms = list_any (λ a. bytes_eq predicate a.word.name) atoms

-- an action of the factor has the predicate in an effect
abbrev pub is_changed_in : Text → Factor → Bool
is_changed_in predicate factor =
    list_any (λ s. stands_in predicate s.add || stands_in predicate s.del) factor.domain.schemas

-- the factor has the predicate under `not` in a precondition or goal
abbrev pub is_under_not_in : Text → Factor → Bool
is_under_not_in predicate factor =
    list_any (λ s. stands_in predicate (negated_atoms s.pre)) factor.domain.schemas
    || stands_in predicate (negated_atoms factor.problem.goals)

-- the factor keeps the predicate to itself
abbrev pub is_private_in : Text → Factor → Bool
is_private_in predicate factor = is_listed predicate (privates_of factor).predicates

-- Whether something is so of a predicate that a factor of the team uses. A private predicate belongs to that factor
-- alone; a public one is that of all factors of the team in which the name isn't private.
abbrev pub is_so_in_team : (Text → Factor → Bool) → List Factor → Factor → Text → Bool
is_so_in_team is_so_in team factor predicate =
    if is_private_in predicate factor then is_so_in predicate factor
    else list_any (λ other. not (is_private_in predicate other) && is_so_in predicate other) team

-- The static rule: no action has the predicate in an effect, so that its facts are as they were at the start.
abbrev pub is_static : List Factor → Factor → Text → Bool
is_static team factor predicate = not (is_so_in_team is_changed_in team factor predicate)

-- The complement rule: the predicate stands under `not`, so that its facts have complements.
abbrev pub is_negated : List Factor → Factor → Text → Bool
is_negated team factor predicate = is_so_in_team is_under_not_in team factor predicate
