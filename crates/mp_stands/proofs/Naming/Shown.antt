-- A factor by other names shows the same before grounding.
use Rattle.std.proofs.Common.{◌≡◌, not, List, map, All, ap, ◌∙◌}
use Rattle.std.proofs.lemmas.Bool.{not-true}
use Rattle.std.proofs.lemmas.List.Elements.{filter_agree}
use Rattle.mp_forms.specs.declared.factor.Factor.{Factor}
use Rattle.mp_joint.specs.Fact.{Text, is_listed}
use Rattle.mp_joint.specs.FactorContribution.{privates_of}
use Rattle.mp_lifting.specs.Texts.{fact_text}
use Rattle.mp_lifting.specs.Views.{changed_predicates, negated_predicates}
use Rattle.mp_ground_laws.proofs.Lists.{filter_of_map}
use Rattle.mp_ground_laws.proofs.Parts.{HasParts}
use Rattle.mp_views.specs.Opened.{is_public_predicate, public_predicates, open_view}
use Rattle.mp_views.specs.Sorted.{sorted_once}
use Rattle.mp_stands.specs.Renaming.{Renaming, IsRenaming, renamed}
use Rattle.mp_stands.proofs.Naming.Facts.{public_init_same}
use Rattle.mp_stands.proofs.Naming.Lists.{passing_stay}
use Rattle.mp_stands.proofs.Naming.Names.{listed_same}
use Rattle.mp_stands.proofs.Naming.Views.{IsPredicate, changed_declared, changed_names, negated_declared, negated_names}
use Rattle.mp_stands.proofs.Naming.Vocabulary.{predicate_stays, privates_same}

module _ (r : Renaming) (f : Factor) (is : IsRenaming f r) where
  public_same : (name : Text) → is_public_predicate (renamed r f) (r.predicates name) ≡ is_public_predicate f name
  public_same name =
      ap not
      ((λ i. is_listed (r.predicates name) ((privates_same r is.objects.one_to_one f i).predicates))
      ∙ listed_same r.predicates is.predicates.one_to_one name (privates_of f).predicates)

  publics_same : (names : List Text) → All (IsPredicate f) names
      → public_predicates (renamed r f) (map r.predicates names) ≡ public_predicates f names
  publics_same names all =
      ap sorted_once
      (filter_of_map r.predicates (is_public_predicate (renamed r f)) names
      ∙ ap (map r.predicates)
      (filter_agree (λ name. is_public_predicate (renamed r f) (r.predicates name))
      (is_public_predicate f) public_same names)
      ∙ passing_stay (IsPredicate f) r.predicates (is_public_predicate f) names all
      (λ name declared public. predicate_stays r f is name declared
      (not-true (is_listed name (privates_of f).predicates) public)))

  pub shown_same : HasParts f → open_view (renamed r f) ≡ open_view f
  shown_same parts =
      let changed = ap (public_predicates (renamed r f)) (changed_names r f)
      ∙ publics_same (changed_predicates f) (changed_declared f parts) in
      let negated = ap (public_predicates (renamed r f)) (negated_names r f is.objects.one_to_one)
      ∙ publics_same (negated_predicates f) (negated_declared f parts) in
      λ i. record {
        changed = changed i;
        negated = negated i;
        init = sorted_once (map fact_text (public_init_same r f is parts.init i));
      }
