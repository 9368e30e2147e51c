-- What an agent shows of its factor before grounding: public names alone (factored MA-PDDL, Kovacs 2012).
use Rattle.std.specs.Prelude.{Bool, not, List, [], map, filter}
use Rattle.std.specs.List.{flat_map}
use Rattle.std.specs.Option.{is_none}
use Rattle.mp_forms.specs.declared.factor.Factor.{Factor}
use Rattle.mp_joint.specs.declared.fact.NamedFact.{NamedFact}
use Rattle.mp_joint.specs.Fact.{Text, is_listed}
use Rattle.mp_joint.specs.FactorContribution.{facts_of, privates_of}
use Rattle.mp_lifting.specs.declared.view.OpenView.{OpenView}
use Rattle.mp_lifting.specs.Texts.{fact_text}
use Rattle.mp_lifting.specs.Views.{changed_predicates, negated_predicates}
use Rattle.mp_views.specs.Sorted.{sorted_once}

-- a predicate is public in a factor
abbrev pub is_public_predicate : Factor → Text → Bool
is_public_predicate factor predicate = not (is_listed predicate (privates_of factor).predicates)

-- the public ones of some predicates
abbrev pub public_predicates : Factor → List Text → List Text
public_predicates factor predicates = sorted_once (filter (is_public_predicate factor) predicates)

-- The initial facts of a factor that are public. Which number its agent has makes no difference to them.
abbrev pub public_init : Factor → List NamedFact
public_init factor = filter (λ f. is_none f.owner) (facts_of 1 factor [] [] factor.problem.init)

-- the public predicates that its actions change, those that stand under `not`, and its public initial facts
abbrev pub open_view : Factor → OpenView
open_view factor = record {
  changed = public_predicates factor (changed_predicates factor);
  negated = public_predicates factor (negated_predicates factor);
  init = sorted_once (map fact_text (public_init factor));
}

-- what several views show together
abbrev pub joined : List OpenView → OpenView
joined views = record {
  changed = sorted_once (flat_map (λ v. v.changed) views);
  negated = sorted_once (flat_map (λ v. v.negated) views);
  init = sorted_once (flat_map (λ v. v.init) views);
}
