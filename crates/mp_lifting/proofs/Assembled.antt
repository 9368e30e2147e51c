-- A factor in numbers, put together from its parts.
use Rattle.mp_lifting.proofs.Basics.{◌≡◌, not, List, map, sym, ap, filter, Bool, Signature, Factor, is_listed, privates_of, asked_atoms, negated_atoms, Facts, LiftedFactor, Vocabulary, ground_atom, ground_value, known_atoms}
use Rattle.mp_lifting.proofs.Basics.{is_total_cost, lifted_action, vocabulary_of}
use Rattle.std.proofs.lemmas.Simd.{map-map}
use Rattle.mp_joint.specs.Fact.{Privates}
use Rattle.mp_lifting.specs.declared.factors.Marks.{Marks}
use Rattle.mp_lifted.specs.declared.lifted.LiftedAction.{LiftedAction}
use Rattle.mp_lifting.specs.declared.view.OpenView.{OpenView}
use Rattle.mp_lifting.specs.Factors.{lifted_factor}
use Rattle.mp_lifting.specs.Privates.{is_private_atom}
use Rattle.mp_lifting.specs.Views.{has_complements, is_changed}

abbrev pub facts_in : Vocabulary → Privates → OpenView → Factor → Facts
facts_in names privates view factor = record {
  init = map (ground_atom names) (filter (is_private_atom privates) factor.problem.init);
  known = known_atoms names view.init;
  goals = map (ground_atom names) (asked_atoms factor.problem.goals);
  avoided = map (ground_atom names) (negated_atoms factor.problem.goals);
  values = map (ground_value names) (filter (λ v. not (is_total_cost v.of)) factor.problem.values);
}

abbrev pub put_together : Marks → List LiftedAction → Facts → LiftedFactor
put_together marks actions facts = record {
  private_predicates = marks.private_predicates;
  negated_predicates = marks.negated_predicates;
  private_objects = marks.private_objects;
  actions = actions;
  init = facts.init;
  known = facts.known;
  goals = facts.goals;
  avoided = facts.avoided;
  values = facts.values;
}

-- a factor of these names and privates
abbrev pub assembled : Vocabulary → Privates → Factor → OpenView → LiftedFactor
assembled names privates factor view =
    put_together
    (record {
      private_predicates = map (λ p. is_listed p privates.predicates) names.predicates;
      negated_predicates = map (λ s. has_complements factor view s.word.name) factor.domain.predicates;
      private_objects = map (λ o. is_listed o privates.objects) names.objects;
    })
    (map (lifted_action names (is_changed factor view) factor) factor.domain.schemas) (facts_in names privates view factor)

pub is_lifted : (view : OpenView) (factor : Factor) → assembled (vocabulary_of factor) (privates_of factor) factor view ≡ lifted_factor factor view
is_lifted view factor =
    let negated = sym (map-map (has_complements factor view) (λ (s : Signature). s.word.name) factor.domain.predicates) in
    ap (λ (flags : List Bool). record (lifted_factor factor view) { negated_predicates = flags }) negated
