-- What an agent grounds of a factor, and of one that is the same in numbers, is the same, but for what its steps are
-- called.
use Rattle.std.proofs.Common.{◌≡◌, ℕ, true, List, [], ◌∷◌, map, refl, sym, ap, ◌∙◌}
use Rattle.std.proofs.lemmas.List.Elements.{All-contains}
use Rattle.std.specs.Prelude.{Contains}
use Rattle.mp_forms.specs.declared.factor.Factor.{Factor}
use Rattle.mp_lifted.specs.declared.lifted.LiftedFactor.{LiftedFactor}
use Rattle.mp_lifting.specs.declared.view.OpenView.{OpenView}
use Rattle.mp_lifting.specs.Factors.{lifted_factor}
use Rattle.mp_lifted.specs.Binding.{ActionBinding}
use Rattle.mp_instances.specs.Instances.{instances}
use Rattle.mp_ground_facts.specs.declared.fact.GroundFact.{GroundFact}
use Rattle.mp_ground_facts.specs.Facts.{atom_of}
use Rattle.mp_ground_facts.specs.Ground.{facts_of, ground_action, ground_factor}
use Rattle.mp_ground_facts.specs.Touched.{counted as counted_at}
use Rattle.mp_ground_facts.proofs.FactsOf.{facts_are_counted}
use Rattle.mp_views.specs.Public.{is_public}
use Rattle.mp_ground_laws.specs.Checked.{IsChecked}
use Rattle.mp_ground_laws.specs.Named.{step_of}
use Rattle.mp_ground_laws.specs.Numbered.{signed_fact, IsOfFactor}
use Rattle.mp_ground_laws.proofs.Counted.{all_counted}
use Rattle.mp_ground_laws.proofs.Starts.{public_is}
use Rattle.mp_grounder.specs.declared.grounded.Ground.{Ground}
use Rattle.mp_grounder.specs.Grounded.{IsGrounded, Known}
use Rattle.mp_grounder.specs.Numbered.{fact_names, text_at, binding_at, ground_at}
use Rattle.mp_grounder.proofs.Standing.{is_grounded}
use Rattle.mp_stands.specs.Translation.{AreAlike}
use Rattle.mp_stands.proofs.Instances.{same_instances}
use Rattle.mp_stands.proofs.SameNumbers.{same_grounding, same_by_texts, same_texts}
use Rattle.mp_stands.proofs.Told.{same_initial, same_text}
use Rattle.mp_stands.proofs.Unique.{AreSameButSteps, grounded_once}

-- what an agent knows that has seen this of all agents
abbrev pub known : ℕ → Factor → OpenView → Known
known me factor view = record { me = me; factor = factor; view = view }

-- what an agent's factor becomes in numbers
abbrev made : ℕ → Factor → OpenView → Ground
made me factor view =
    ground_at me (fact_names factor) (ground_factor (lifted_factor factor view) (instances (lifted_factor factor view)))

-- ---- its steps

-- actions in numbers stand for the instances that they come from
bindings_back : (factor : LiftedFactor) (facts : List GroundFact) (all : List ActionBinding)
    → map binding_at (map (ground_action factor facts) all) ≡ all
bindings_back factor facts [] = refl
bindings_back factor facts (b ∷ all) = λ i. b ∷ bindings_back factor facts all i

-- the steps of a grounded factor are those of the instances in numbers
pub steps_stand : (me : ℕ) (factor : Factor) (view : OpenView) (g : Ground) → IsChecked factor
    → IsGrounded (known me factor view) g
    → map (step_of me factor) g.steps ≡ map (step_of me factor) (instances (lifted_factor factor view))
steps_stand me factor view g checked grounded =
    let lifted = lifted_factor factor view in
    grounded.steps ∙ sym (is_grounded me factor view checked).steps
    ∙ ap (map (step_of me factor)) (bindings_back lifted (facts_of lifted (instances lifted)) (instances lifted))

-- ---- all else

module _ (me : ℕ) (view : OpenView) (f g : Factor) (first : IsChecked f) (second : IsChecked g)
    (alike : AreAlike view f g) where
  abbrev lifted : LiftedFactor
  lifted = lifted_factor f view

  abbrev facts : List GroundFact
  facts = facts_of lifted (instances lifted)

  of_factor : (x : GroundFact) → Contains facts x → IsOfFactor f view x
  of_factor x found =
      All-contains (IsOfFactor f view) (counted_at lifted (instances lifted)) x (all_counted f view first)
      ((facts_are_counted lifted (instances lifted) x).0 found)

  public_told : (x : GroundFact) → Contains facts x → is_public (signed_fact me f x) ≡ x.is_public
  public_told x found =
      let is = of_factor x found in
      sym (is.public ∙ public_is me f view (atom_of x) is.range)

  texts_alike : (x : GroundFact) → Contains facts x → x.is_public ≡ true
      → text_at (fact_names g) x ≡ text_at (fact_names f) x
  texts_alike x found public =
      same_text view f g alike me x (of_factor x found) (public_told x found ∙ public)

  made_alike : made me g view ≡ made me f view
  made_alike =
      ap (ground_at me (fact_names g))
      (same_grounding lifted (lifted_factor g view) alike.lifted (same_instances view f g alike first second)
      (λ x found. same_initial view f g alike first second x (of_factor x found)))
      ∙ same_by_texts me (fact_names f) (fact_names g) (ground_factor lifted (instances lifted))
      (same_texts lifted (instances lifted) (fact_names f) (fact_names g) texts_alike)

  pub grounded_alike : (a b : Ground) → IsGrounded (known me f view) a → IsGrounded (known me g view) b
      → AreSameButSteps a b
  grounded_alike a b one other =
      let here = grounded_once (known me f view) a (made me f view) one (is_grounded me f view first) in
      let there = grounded_once (known me g view) (made me g view) b (is_grounded me g view second) other in
      there ∙ ap (λ (w : Ground). record w { steps = b.steps }) (made_alike ∙ here)
