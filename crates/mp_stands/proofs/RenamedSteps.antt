-- The steps of a renamed factor are those of the factor, by the other names.
use Rattle.std.proofs.Common.{arith, ◌≡◌, ℕ, zero, suc, ◌<◌, List, [], ◌∷◌, map, length, All, refl, sym, ap, ◌∙◌, subst}
use Rattle.std.proofs.lemmas.List.{length-map}
use Rattle.std.proofs.lemmas.Option.{slice_get_within}
use Rattle.std.proofs.lemmas.Simd.{map-map}
use Rattle.mp_forms.specs.declared.factor.Factor.{Factor}
use Rattle.mp_forms.specs.declared.schema_values.Schema.{Schema}
use Rattle.mp_sexp.specs.Numbers.{name_at}
use Rattle.mp_joint.specs.Fact.{Text}
use Rattle.mp_lifting.specs.declared.view.OpenView.{OpenView}
use Rattle.mp_lifting.specs.Factors.{lifted_factor}
use Rattle.mp_lifting.specs.Vocabulary.{vocabulary_of}
use Rattle.mp_lifted.specs.Binding.{ActionBinding}
use Rattle.mp_instances.specs.Instances.{instances}
use Rattle.mp_ground_laws.specs.Checked.{IsChecked}
use Rattle.mp_ground_laws.specs.Named.{action_names, named_objects, step_of}
use Rattle.mp_ground_laws.specs.Numbered.{IsInstance, IsObject}
use Rattle.mp_ground_laws.proofs.Counted.{all_instances}
use Rattle.mp_grounder.specs.declared.grounded.Ground.{Ground}
use Rattle.mp_grounder.specs.Grounded.{IsGrounded}
use Rattle.mp_stands.specs.Renaming.{Renaming, IsRenaming, IsRenamed}
use Rattle.mp_stands.specs.Team.{renamed_step}
use Rattle.mp_stands.proofs.Alike.{renamed_alike, renamed_objects, renamed_actions}
use Rattle.mp_stands.proofs.SameGrounds.{known, steps_stand}
use Rattle.mp_stands.proofs.Instances.{same_instances}
use Rattle.mp_stands.proofs.ComparedLists.{mapped_where}

-- a name that stands in a list, among renamed ones
named_alike : (other : Text → Text) (names : List Text) (n : ℕ) → n < length names
    → name_at (map other names) n ≡ other (name_at names n)
named_alike other [] n less = absurd (omega (arith, less))
named_alike other (name ∷ names) zero less = refl
named_alike other (name ∷ names) (suc n) less = named_alike other names n (omega (arith, less))

module _ (r : Renaming) (f g : Factor) (objects : (vocabulary_of g).objects ≡ map r.objects (vocabulary_of f).objects)
    (actions : action_names g ≡ map r.actions (action_names f)) where
  objects_alike : (numbers : List ℕ) → All (IsObject f) numbers
      → named_objects g numbers ≡ map r.objects (named_objects f numbers)
  objects_alike numbers all =
      mapped_where (IsObject f) (λ n. r.objects (name_at (vocabulary_of f).objects n))
      (name_at (vocabulary_of g).objects)
      (λ n less. ap (λ names. name_at names n) objects ∙ named_alike r.objects (vocabulary_of f).objects n less)
      numbers all
      ∙ sym (map-map r.objects (name_at (vocabulary_of f).objects) numbers)

  action_alike : (i : ActionBinding) → IsInstance f i
      → name_at (action_names g) i.action ≡ r.actions (name_at (action_names f) i.action)
  action_alike i is =
      let within : i.action < length (action_names f) =
      subst (λ n. i.action < n) (sym (length-map f.domain.schemas (λ (s : Schema). s.word.name)))
      (slice_get_within f.domain.schemas i.action is.schema is.at) in
      ap (λ names. name_at names i.action) actions ∙ named_alike r.actions (action_names f) i.action within

  step_alike : (me : ℕ) (i : ActionBinding) → IsInstance f i → step_of me g i ≡ renamed_step r (step_of me f i)
  step_alike me i is =
      let action = action_alike i is in
      let args = objects_alike i.objects is.objects.range in
      λ j. record { agent = me; action = action j; args = args j }

  pub instances_alike : (me : ℕ) (view : OpenView)
      → map (step_of me g) (instances (lifted_factor f view))
      ≡ map (renamed_step r) (map (step_of me f) (instances (lifted_factor f view)))
  instances_alike me view =
      mapped_where (IsInstance f) (λ i. renamed_step r (step_of me f i)) (step_of me g) (step_alike me)
      (instances (lifted_factor f view)) (all_instances f view)
      ∙ sym (map-map (renamed_step r) (step_of me f) (instances (lifted_factor f view)))

pub steps_alike : (me : ℕ) (view : OpenView) (r : Renaming) (f g : Factor) → IsChecked f → IsChecked g → IsRenaming f r
    → IsRenamed r f g
    → (a b : Ground) → IsGrounded (known me f view) a → IsGrounded (known me g view) b
    → map (step_of me g) b.steps ≡ map (renamed_step r) (map (step_of me f) a.steps)
steps_alike me view r f g first second is renamed a b one other =
    let alike = renamed_alike view r f g first second is renamed in
    steps_stand me g view b second other
    ∙ ap (map (step_of me g)) (same_instances view f g alike first second)
    ∙ instances_alike r f g (renamed_objects r f g first second is renamed)
    (renamed_actions r f g first second is renamed) me view
    ∙ ap (map (renamed_step r)) (sym (steps_stand me f view a first one))
