use Rattle.mp_views.proofs.Basics.{changed_predicates, negated_predicates}
use Rattle.mp_views.proofs.OpenLaws.{shown_is_public}
use Rattle.mp_views.proofs.laws.shown_predicates_are_public.Goals as goal

pub returns : goal.returns
returns c = record {
  changed = λ factor predicate. shown_is_public factor (changed_predicates factor) predicate;
  negated = λ factor predicate. shown_is_public factor (negated_predicates factor) predicate;
}
