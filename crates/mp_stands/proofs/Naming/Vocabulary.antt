-- The vocabulary of a factor by other names, and what it keeps to itself.
use Rattle.std.proofs.Common.{◌≡◌, true, false, map, filter, refl, sym, ap, ◌∙◌}
use Rattle.mp_forms.specs.declared.typed_values.Typed.{Typed}
use Rattle.mp_forms.specs.declared.signature_values.Signature.{Signature}
use Rattle.mp_forms.specs.declared.factor.Factor.{Factor}
use Rattle.mp_typing.specs.ObjectList.{object_list}
use Rattle.mp_joint.specs.Fact.{Text, Privates, is_listed}
use Rattle.mp_joint.specs.FactorContribution.{declared_objects, privates_of}
use Rattle.mp_lifting.specs.declared.vocabulary.Vocabulary.{Vocabulary}
use Rattle.mp_lifting.specs.Vocabulary.{vocabulary_of}
use Rattle.mp_lifting.proofs.DeclaredNames.{first_named}
use Rattle.mp_stands.specs.Renaming.{Renaming, IsOneToOne, IsRenaming, renamed, renamed_signature, renamed_typed}
use Rattle.mp_stands.proofs.Naming.Names.{listed_other, names_of_all, names_of_some}
use Rattle.mp_stands.proofs.Naming.Objects.{declared_same, name_of, objects_same}

abbrev pub signature_name : Signature → Text
signature_name s = s.word.name

module _ (r : Renaming) where
  abbrev pub other_vocabulary : Vocabulary → Vocabulary
  other_vocabulary v = record {
    objects = map r.objects v.objects;
    predicates = map r.predicates v.predicates;
    functions = map r.functions v.functions;
  }

  abbrev pub other_privates : Privates → Privates
  other_privates p = record { predicates = map r.predicates p.predicates; objects = map r.objects p.objects }

  module _ (one : IsOneToOne r.objects) (f : Factor) where
    pub vocabulary_same : vocabulary_of (renamed r f) ≡ other_vocabulary (vocabulary_of f)
    vocabulary_same =
        let objects =
        ap (map name_of) (objects_same r one f)
        ∙ names_of_all name_of (renamed_typed r.objects) r.objects (object_list f.domain f.problem) (λ _. refl) in
        λ i. record {
          objects = objects i;
          predicates =
              names_of_all signature_name (renamed_signature r.predicates) r.predicates f.domain.predicates
              (λ _. refl) i;
          functions =
              names_of_all signature_name (renamed_signature r.functions) r.functions f.domain.functions (λ _. refl) i;
        }

    pub privates_same : privates_of (renamed r f) ≡ other_privates (privates_of f)
    privates_same =
        let objects = ap (λ os. map name_of (filter (λ (o : Typed). o.private) os)) (declared_same r one f)
        ∙ names_of_some name_of (λ (o : Typed). o.private) (renamed_typed r.objects) r.objects (declared_objects f)
        (λ _. refl) (λ _. refl) in
        λ i. record {
          predicates =
              names_of_some signature_name (λ (s : Signature). s.private)
              (renamed_signature r.predicates) r.predicates f.domain.predicates
              (λ _. refl) (λ _. refl) i;
          objects = objects i;
        }

-- ---- public names stay

module _ (r : Renaming) (f : Factor) (is : IsRenaming f r) where
  pub predicate_stays : (name : Text) → is_listed name (vocabulary_of f).predicates ≡ true
      → is_listed name (privates_of f).predicates ≡ false
      → r.predicates name ≡ name
  predicate_stays name declared public =
      is.predicates.publics_stay name
      (listed_other signature_name (λ (s : Signature). s.private) name f.domain.predicates declared public)

  pub object_stays : (name : Text) → is_listed name (map name_of (declared_objects f)) ≡ true
      → is_listed name (privates_of f).objects ≡ false
      → r.objects name ≡ name
  object_stays name declared public =
      is.objects.publics_stay name
      (listed_other name_of (λ (o : Typed). o.private) name (declared_objects f) declared public)

  -- objects of the vocabulary are declared
  pub known_object_stays : (name : Text) → is_listed name (vocabulary_of f).objects ≡ true
      → is_listed name (privates_of f).objects ≡ false
      → r.objects name ≡ name
  known_object_stays name known public =
      object_stays name (sym (first_named (declared_objects f) name) ∙ known) public
