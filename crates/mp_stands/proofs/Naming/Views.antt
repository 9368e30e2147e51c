-- Which predicates actions change, and which stand under `not`, in a factor by other names.
use Rattle.std.proofs.Common.{◌≡◌, Bool, true, false, List, [], ◌++◌, map, All, flat_map, if◌then◌else◌, refl, sym, ap, ◌∙◌}
use Rattle.std.proofs.lemmas.List.{map-append}
use Rattle.std.proofs.lemmas.List.Elements.{All-append}
use Rattle.mp_forms.specs.declared.atom_values.Atom.{Atom}
use Rattle.mp_forms.specs.declared.schema_values.Schema.{Schema}
use Rattle.mp_forms.specs.declared.factor.Factor.{Factor}
use Rattle.mp_joint.specs.Fact.{Text, is_listed}
use Rattle.mp_joint.specs.FactorContribution.{privates_of}
use Rattle.mp_joint.specs.Grounding.{negated_atoms}
use Rattle.mp_lifting.specs.declared.view.OpenView.{OpenView}
use Rattle.mp_lifting.specs.Views.{predicates_of, changed_predicates, negated_predicates, is_of, is_changed, has_complements}
use Rattle.mp_lifting.specs.Vocabulary.{vocabulary_of}
use Rattle.mp_ground_laws.proofs.Parts.{HasParts, IsAtom, IsSchema}
use Rattle.mp_stands.specs.Renaming.{Renaming, IsOneToOne, IsRenaming, renamed, renamed_fact, renamed_schema}
use Rattle.mp_stands.proofs.Naming.Atoms.{negated_same}
use Rattle.mp_stands.proofs.Naming.Lists.{all_mapped, all_parts, map_of_map, map_of_parts}
use Rattle.mp_stands.proofs.Naming.Names.{listed_same}
use Rattle.mp_stands.proofs.Naming.Vocabulary.{predicate_stays, privates_same}
use Rattle.std.proofs.lemmas.List.Folds.{flat_map-map}

-- ---- the predicates of atoms

module _ (r : Renaming) where
  predicates_same : (atoms : List Atom)
      → predicates_of (map (renamed_fact r) atoms) ≡ map r.predicates (predicates_of atoms)
  predicates_same atoms =
      map_of_map (λ (a : Atom). a.word.name) (renamed_fact r) atoms
      ∙ sym (map_of_map r.predicates (λ (a : Atom). a.word.name) atoms)

  -- predicates that are found in each action
  of_schemas : (found : Schema → List Text) → ((s : Schema) → found (renamed_schema r s) ≡ map r.predicates (found s))
      → (ss : List Schema)
      → flat_map found (map (renamed_schema r) ss) ≡ map r.predicates (flat_map found ss)
  of_schemas found same ss =
      flat_map-map found (renamed_schema r) ss ∙ (λ i. flat_map (λ s. same s i) ss)
      ∙ sym (map_of_parts r.predicates found ss)

  changed_of : (s : Schema) → predicates_of (map (renamed_fact r) s.add) ++ predicates_of (map (renamed_fact r) s.del)
      ≡ map r.predicates (predicates_of s.add ++ predicates_of s.del)
  changed_of s =
      (λ i. predicates_same s.add i ++ predicates_same s.del i)
      ∙ sym (map-append r.predicates (predicates_of s.add) (predicates_of s.del))

  module _ (objects : IsOneToOne r.objects) where
    negated_of : (s : Schema)
        → predicates_of (negated_atoms (renamed_schema r s).pre)
        ≡ map r.predicates (predicates_of (negated_atoms s.pre))
    negated_of s = ap predicates_of (negated_same r objects s.pre) ∙ predicates_same (negated_atoms s.pre)

  module _ (f : Factor) where
    pub changed_names : changed_predicates (renamed r f) ≡ map r.predicates (changed_predicates f)
    changed_names = of_schemas (λ (s : Schema). predicates_of s.add ++ predicates_of s.del) changed_of f.domain.schemas

    pub negated_names : (objects : IsOneToOne r.objects)
        → negated_predicates (renamed r f) ≡ map r.predicates (negated_predicates f)
    negated_names objects =
        let schemas =
        of_schemas (λ (s : Schema). predicates_of (negated_atoms s.pre)) (negated_of objects) f.domain.schemas in
        let goals =
        ap predicates_of (negated_same r objects f.problem.goals) ∙ predicates_same (negated_atoms f.problem.goals) in
        (λ i. schemas i ++ goals i)
        ∙ sym (map-append r.predicates (flat_map (λ (s : Schema). predicates_of (negated_atoms s.pre)) f.domain.schemas)
        (predicates_of (negated_atoms f.problem.goals)))

-- ---- they are declared

abbrev pub IsPredicate : Factor → Text → Type 0
IsPredicate f name = is_listed name (vocabulary_of f).predicates ≡ true

module _ (f : Factor) (parts : HasParts f) where
  schema_changes : (s : Schema) → IsSchema f s → All (IsPredicate f) (predicates_of s.add ++ predicates_of s.del)
  schema_changes s is =
      All-append (IsPredicate f) (predicates_of s.add) (predicates_of s.del)
      (all_mapped (IsAtom s.params f) (IsPredicate f) (λ (a : Atom). a.word.name) s.add is.add (λ a used. used.named))
      (all_mapped (IsAtom s.params f) (IsPredicate f) (λ (a : Atom). a.word.name) s.del is.del (λ a used. used.named))

  pub changed_declared : All (IsPredicate f) (changed_predicates f)
  changed_declared =
      all_parts (IsSchema f) (IsPredicate f)
      (λ (s : Schema). predicates_of s.add ++ predicates_of s.del) f.domain.schemas parts.schemas schema_changes

  pub negated_declared : All (IsPredicate f) (negated_predicates f)
  negated_declared =
      let of_schema = λ (s : Schema). predicates_of (negated_atoms s.pre) in
      All-append (IsPredicate f) (flat_map of_schema f.domain.schemas) (predicates_of (negated_atoms f.problem.goals))
      (all_parts (IsSchema f) (IsPredicate f) of_schema f.domain.schemas parts.schemas
      (λ s is.
      all_mapped (IsAtom s.params f) (IsPredicate f) (λ (a : Atom). a.word.name) (negated_atoms s.pre) is.pre.negated
      (λ a used. used.named)))
      (all_mapped (IsAtom [] f) (IsPredicate f) (λ (a : Atom). a.word.name)
      (negated_atoms f.problem.goals) parts.goals.negated (λ a used. used.named))

-- ---- the same is so of a declared predicate

by_test : (test yes' no' no'' : Bool) → (test ≡ false → no' ≡ no'')
    → (if test then yes' else no') ≡ (if test then yes' else no'')
by_test true yes' no' no'' h = refl
by_test false yes' no' no'' h = h refl

is_of_same : (other : Text → Text) (one : IsOneToOne other) (privates own shown : List Text) (name : Text)
    → (is_listed name privates ≡ false → other name ≡ name)
    → is_of (map other privates) (map other own) shown (other name) ≡ is_of privates own shown name
is_of_same other one privates own shown name stays =
    (λ i.
    if listed_same other one name privates i then listed_same other one name own i
    else is_listed (other name) shown)
    ∙ by_test (is_listed name privates) (is_listed name own) (is_listed (other name) shown) (is_listed name shown)
    (λ public. ap (λ n. is_listed n shown) (stays public))

module _ (r : Renaming) (f : Factor) (view : OpenView) (is : IsRenaming f r) where
  abbrev one : IsOneToOne r.predicates
  one = is.predicates.one_to_one

  abbrev own_privates : List Text
  own_privates = (privates_of f).predicates

  pub changed_same : (name : Text) → IsPredicate f name
      → is_changed (renamed r f) view (r.predicates name) ≡ is_changed f view name
  changed_same name declared =
      (λ i. is_of ((privates_same r is.objects.one_to_one f i).predicates) (changed_names r f i) view.changed
      (r.predicates name))
      ∙ is_of_same r.predicates one own_privates (changed_predicates f) view.changed name
      (predicate_stays r f is name declared)

  pub complements_same : (name : Text) → IsPredicate f name
      → has_complements (renamed r f) view (r.predicates name) ≡ has_complements f view name
  complements_same name declared =
      (λ i. is_of ((privates_same r is.objects.one_to_one f i).predicates)
      (negated_names r f is.objects.one_to_one i) view.negated (r.predicates name))
      ∙ is_of_same r.predicates one own_privates (negated_predicates f) view.negated name
      (predicate_stays r f is name declared)
