-- Two factors that are the same by other names are the same in numbers, and have the same public names.
use Rattle.std.proofs.Common.{◌≡◌, List, map, slice_get, refl, sym, ap, ◌∙◌, subst}
use Rattle.std.proofs.lemmas.List.{map-id}
use Rattle.mp_forms.specs.declared.factor.Factor.{Factor}
use Rattle.mp_forms.specs.declared.schema_values.Schema.{Schema}
use Rattle.mp_joint.specs.Fact.{Text}
use Rattle.mp_lifted.specs.declared.lifted.LiftedFactor.{LiftedFactor}
use Rattle.mp_lifting.specs.declared.view.OpenView.{OpenView}
use Rattle.mp_lifting.specs.Factors.{lifted_factor}
use Rattle.mp_lifting.specs.Vocabulary.{vocabulary_of}
use Rattle.mp_ground_laws.specs.Checked.{IsChecked}
use Rattle.mp_ground_laws.specs.Named.{action_names}
use Rattle.mp_ground_laws.proofs.Parts.{parts_of}
use Rattle.mp_stands.specs.Renaming.{Renaming, IsRenaming, IsRenamingOf, IsRenamed, renamed, renamed_schema, same_names}
use Rattle.mp_stands.specs.Translation.{AreAlike, AreAlikeButKnown}
use Rattle.mp_stands.proofs.Naming.Factors.{renamed_is_alike}
use Rattle.mp_stands.proofs.Naming.Names.{names_of_all}
use Rattle.mp_stands.proofs.Naming.Vocabulary.{vocabulary_same}

-- ---- each name for itself

itself_renames : (publics : List Text) → IsRenamingOf publics (λ name. name)
itself_renames publics = record {
  one_to_one = λ a b same. same;
  publics_stay = λ name there. refl;
  words_stay = λ name fixed. refl;
}

same_renames : (f : Factor) → IsRenaming f same_names
same_renames f = record {
  objects = itself_renames _;
  predicates = itself_renames _;
  functions = itself_renames _;
  actions = itself_renames _;
}

-- ---- two that are like a third one are alike

but_known_joined : (a b c : LiftedFactor) → AreAlikeButKnown a c → AreAlikeButKnown b c → AreAlikeButKnown a b
but_known_joined a b c of_a of_b =
    ap (λ (x : LiftedFactor). record x { known = b.known }) (sym of_b ∙ of_a)

alike_joined : (view : OpenView) (f g h : Factor) → AreAlike view f h → AreAlike view g h → AreAlike view f g
alike_joined view f g h of_f of_g =
    let lifted =
    but_known_joined (lifted_factor f view) (lifted_factor g view) (lifted_factor h view) of_f.lifted of_g.lifted in
    record {
      lifted = lifted;
      public_objects = λ n public.
          sym (of_g.public_objects n (ap (λ (x : LiftedFactor). slice_get x.private_objects n) lifted ∙ public))
          ∙ of_f.public_objects n public;
      public_predicates = λ n public.
          sym (of_g.public_predicates n (ap (λ (x : LiftedFactor). slice_get x.private_predicates n) lifted ∙ public))
          ∙ of_f.public_predicates n public;
      shown = sym of_g.shown ∙ of_f.shown;
    }

-- ---- the names

action_names_same : (r : Renaming) (f : Factor) → action_names (renamed r f) ≡ map r.actions (action_names f)
action_names_same r f =
    names_of_all (λ (s : Schema). s.word.name) (renamed_schema r) r.actions f.domain.schemas (λ _. refl)

module _ (r : Renaming) (f g : Factor) (checked_f : IsChecked f) (checked_g : IsChecked g) (is : IsRenaming f r)
    (same : IsRenamed r f g) where
  pub renamed_objects : (vocabulary_of g).objects ≡ map r.objects (vocabulary_of f).objects
  renamed_objects =
      sym (ap (λ v. v.objects) (vocabulary_same same_names (λ a b equal. equal) g) ∙ map-id (vocabulary_of g).objects)
      ∙ ap (λ (h : Factor). (vocabulary_of h).objects) same
      ∙ ap (λ v. v.objects) (vocabulary_same r is.objects.one_to_one f)

  pub renamed_actions : action_names g ≡ map r.actions (action_names f)
  renamed_actions =
      sym (action_names_same same_names g ∙ map-id (action_names g)) ∙ ap action_names same ∙ action_names_same r f

-- ---- the two factors

pub renamed_alike : (view : OpenView) (r : Renaming) (f g : Factor) → IsChecked f → IsChecked g → IsRenaming f r
    → IsRenamed r f g → AreAlike view f g
renamed_alike view r f g checked_f checked_g is same =
    alike_joined view f g (renamed r f) (renamed_is_alike r f view is (parts_of f checked_f.no_fault))
    (subst (AreAlike view g) same (renamed_is_alike same_names g view (same_renames g) (parts_of g checked_g.no_fault)))
