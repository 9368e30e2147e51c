-- Actions by other names are the same in numbers.
use Rattle.std.proofs.Common.{◌≡◌, Bool, not, List, [], ◌∷◌, map, All, if◌then◌else◌, ap, ◌∙◌}
use Rattle.mp_forms.specs.declared.typed_values.Typed.{Typed}
use Rattle.mp_forms.specs.declared.atom_values.Atom.{Atom}
use Rattle.mp_forms.specs.declared.schema_values.Schema.{Schema}
use Rattle.mp_forms.specs.declared.factor.Factor.{Factor}
use Rattle.mp_joint.specs.Fact.{Text}
use Rattle.mp_joint.specs.Grounding.{asked_atoms, negated_atoms}
use Rattle.mp_lifted.specs.declared.lifted.Amount.TheVariants.{Number}
use Rattle.mp_lifting.specs.declared.view.OpenView.{OpenView}
use Rattle.mp_lifting.specs.declared.vocabulary.Vocabulary.{Vocabulary}
use Rattle.mp_lifting.specs.Lifting.{amounts_of, is_not, lifted_action, lifted_atom, lifted_where, members_of}
use Rattle.mp_lifting.specs.Views.{is_changed}
use Rattle.mp_lifting.specs.Vocabulary.{vocabulary_of}
use Rattle.mp_ground_laws.proofs.Parts.{IsAtom, IsSchema}
use Rattle.mp_stands.specs.Renaming.{Renaming, IsRenaming, public_signatures, kept_typed, renamed, renamed_fact, renamed_schema}
use Rattle.mp_stands.proofs.Naming.Atoms.{amounts_same, asked_same, atoms_same, negated_same, where_same}
use Rattle.mp_stands.proofs.Naming.Lists.{map_of_map, map_same}
use Rattle.mp_stands.proofs.Naming.Objects.{members_same}
use Rattle.mp_stands.proofs.Naming.Views.{changed_same}
use Rattle.mp_stands.proofs.Naming.Vocabulary.{other_vocabulary, vocabulary_same}

module _ (r : Renaming) (f : Factor) (view : OpenView) (is : IsRenaming f r) where
  abbrev after : Vocabulary
  after = other_vocabulary r (vocabulary_of f)

  abbrev changed' : Text → Bool
  changed' = is_changed (renamed r f) view

  abbrev changed : Text → Bool
  changed = is_changed f view

  params_same : (params : List Typed)
      → map (members_of (renamed r f)) (map kept_typed params) ≡ map (members_of f) params
  params_same params =
      map_of_map (members_of (renamed r f)) kept_typed params
      ∙ (λ i. map (λ p. members_same r is.objects.one_to_one f p i) params)

  module _ (s : Schema) (used : IsSchema f s) where
    -- atoms of a condition whose predicates are changed, or are not
    dynamic_same : (atoms' atoms : List Atom) → atoms' ≡ map (renamed_fact r) atoms → All (IsAtom s.params f) atoms
        → lifted_where after changed' (map kept_typed s.params) atoms'
        ≡ lifted_where (vocabulary_of f) changed s.params atoms
    dynamic_same atoms' atoms same all =
        ap (lifted_where after changed' (map kept_typed s.params)) same
        ∙ where_same r is.objects.one_to_one is.predicates.one_to_one (vocabulary_of f) s.params
        (IsAtom s.params f) changed' changed atoms all
        (λ a of. changed_same r f view is a.word.name of.named)

    static_same : (atoms' atoms : List Atom) → atoms' ≡ map (renamed_fact r) atoms → All (IsAtom s.params f) atoms
        → lifted_where after (is_not changed') (map kept_typed s.params) atoms'
        ≡ lifted_where (vocabulary_of f) (is_not changed) s.params atoms
    static_same atoms' atoms same all =
        ap (lifted_where after (is_not changed') (map kept_typed s.params)) same
        ∙ where_same r is.objects.one_to_one is.predicates.one_to_one (vocabulary_of f) s.params (IsAtom s.params f)
        (is_not changed') (is_not changed)
        atoms all (λ a of. ap not (changed_same r f view is a.word.name of.named))

    effect_same : (atoms : List Atom)
        → map (lifted_atom after (map kept_typed s.params)) (map (renamed_fact r) atoms)
        ≡ map (lifted_atom (vocabulary_of f) s.params) atoms
    effect_same atoms = atoms_same r is.objects.one_to_one is.predicates.one_to_one (vocabulary_of f) s.params atoms

    costs_same : amounts_of after f.problem.metric (renamed_schema r s)
        ≡ amounts_of (vocabulary_of f) f.problem.metric s
    costs_same =
        ap (λ amounts. if f.problem.metric then amounts else Number 1 ∷ [])
        (amounts_same r is.objects.one_to_one (public_signatures f.domain.functions) is.functions
        (vocabulary_of f) s.params s.increases)

    action_same : lifted_action after changed' (renamed r f) (renamed_schema r s)
        ≡ lifted_action (vocabulary_of f) changed f s
    action_same =
        let asked = asked_same r is.objects.one_to_one s.pre in
        let negated = negated_same r is.objects.one_to_one s.pre in
        λ i. record {
          members = params_same s.params i;
          static_positive =
              static_same (asked_atoms (renamed_schema r s).pre) (asked_atoms s.pre) asked used.pre.asked i;
          static_negative =
              static_same (negated_atoms (renamed_schema r s).pre) (negated_atoms s.pre) negated used.pre.negated i;
          positive = dynamic_same (asked_atoms (renamed_schema r s).pre) (asked_atoms s.pre) asked used.pre.asked i;
          negative =
              dynamic_same (negated_atoms (renamed_schema r s).pre) (negated_atoms s.pre) negated used.pre.negated i;
          add = effect_same s.add i;
          del = effect_same s.del i;
          amounts = costs_same i;
        }

  pub actions_same : All (IsSchema f) f.domain.schemas
      → map (lifted_action (vocabulary_of (renamed r f)) changed' (renamed r f))
      (map (renamed_schema r) f.domain.schemas)
      ≡ map (lifted_action (vocabulary_of f) changed f) f.domain.schemas
  actions_same all =
      ap (λ v. map (lifted_action v changed' (renamed r f)) (map (renamed_schema r) f.domain.schemas))
      (vocabulary_same r is.objects.one_to_one f)
      ∙ map_of_map (lifted_action after changed' (renamed r f)) (renamed_schema r) f.domain.schemas
      ∙ map_same (IsSchema f) (λ s. lifted_action after changed' (renamed r f) (renamed_schema r s))
      (lifted_action (vocabulary_of f) changed f)
      f.domain.schemas all action_same
