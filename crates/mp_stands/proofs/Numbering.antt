-- Each team of grounded factors has a numbering.
use Rattle.std.proofs.Common.{arith, ◌≡◌, ℕ, ◌+◌, ◌-◌, ◌<◌, List, [], map, length, get_or, All, Some, slice_get, refl, sym, ◌∙◌, subst, inl, inr}
use Rattle.std.proofs.lemmas.Option.{same_Some, slice_get_within, slice_get_cases}
use Rattle.mp_forms.specs.declared.factor.Factor.{Factor}
use Rattle.mp_joint.specs.declared.fact.SignedFact.{SignedFact}
use Rattle.mp_joint.specs.declared.plan.PlanStep.{PlanStep}
use Rattle.mp_lifting.specs.Texts.{signed_text}
use Rattle.mp_stands.specs.Numbering.{Numbering}
use Rattle.mp_ground_laws.specs.Checked.{IsChecked}
use Rattle.mp_ground_laws.specs.Named.{step_of}
use Rattle.mp_grounder.specs.declared.grounded.Ground.{Ground}
use Rattle.mp_grounder.specs.Grounded.{IsGrounded}
use Rattle.mp_split.specs.Team.{AreGrounded, known_at}
use Rattle.mp_stands.specs.Numbered.{IsNumberingOf}
use Rattle.mp_stands.proofs.Made.{has_list, has_sources}
use Rattle.mp_stands.proofs.Tables.{has_ground, IsPublicOfOne, from_table, texts}

module _ (team : List Factor) (grounds : List Ground) (all : All IsChecked team) (are : AreGrounded team grounds) where
  -- the private facts of the agent at a place
  record HasPrivates (place : ℕ) (factor : Factor) (g : Ground) (privates : List SignedFact) : Type 0 where
    grounded : IsGrounded (known_at team place factor) g
    is : grounded.private_facts ≡ privates

  abbrev ArePrivates : ℕ → List SignedFact → Type 0
  ArePrivates place privates =
      (factor : Factor) (g : Ground) → slice_get team place ≡ Some factor → slice_get grounds place ≡ Some g → HasPrivates place factor g privates

  abbrev AreSteps : ℕ → List PlanStep → Type 0
  AreSteps place steps =
      (factor : Factor) (g : Ground) → slice_get team place ≡ Some factor → slice_get grounds place ≡ Some g → map (step_of (place + 1) factor) g.steps ≡ steps

  one_privates : (place : ℕ) → place < length team → (privates : List SignedFact) × ArePrivates place privates
  one_privates place less =
      elim ((slice_get_cases team place).1) [
        | inl of_team ↦
            let ground = has_ground team grounds place of_team.0 are.one_each of_team.2 in
            let is = (are.each place of_team.0 ground.0 of_team.2 ground.1).0 in (
              is.private_facts,
              λ factor g at ground_at.
                  let factors : of_team.0 ≡ factor = same_Some of_team.0 factor (sym of_team.2 ∙ at) in
                  let grounds_are : ground.0 ≡ g = same_Some ground.0 g (sym ground.1 ∙ ground_at) in
                  subst (λ f. HasPrivates place f g is.private_facts) factors
                  (subst (λ o. HasPrivates place of_team.0 o is.private_facts) grounds_are (record { grounded = is; is = refl })),
            )
        | inr past ↦ absurd (omega (arith, less, past.0))
      ]

  one_steps : (place : ℕ) → place < length team → (steps : List PlanStep) × AreSteps place steps
  one_steps place less =
      elim ((slice_get_cases team place).1) [
        | inl of_team ↦
            let ground = has_ground team grounds place of_team.0 are.one_each of_team.2 in (
              map (step_of (place + 1) of_team.0) ground.0.steps,
              λ factor g at ground_at.
                  let factors : factor ≡ of_team.0 = same_Some factor of_team.0 (sym at ∙ of_team.2) in
                  let grounds_are : g ≡ ground.0 = same_Some g ground.0 (sym ground_at ∙ ground.1) in
                  λ i. map (step_of (place + 1) (factors i)) (grounds_are i).steps,
            )
        | inr past ↦ absurd (omega (arith, less, past.0))
      ]

  pub has_numbering : (numbering : Numbering) × IsNumberingOf team grounds numbering
  has_numbering =
      let publics = has_sources signed_text (IsPublicOfOne team grounds all are) (texts team grounds all are) (from_table team grounds all are) in
      let privates = has_list (length team) ArePrivates one_privates in
      let steps = has_list (length team) AreSteps one_steps in (
        record { publics = publics.sources; privates = privates.list; steps = steps.list },
        record {
          texts = publics.are;
          public = λ x found. let is = publics.each x found in (is.public, is.counted_by);
          own = λ place factor g at ground_at.
              let within = slice_get_within team place factor at in
              let same : place ≡ place + 1 - 1 = omega arith in
              let of_privates : HasPrivates place factor g (get_or privates.list (place + 1 - 1) []) =
              subst (λ n. HasPrivates place factor g (get_or privates.list n [])) same (privates.each place [] within factor g at ground_at) in
              record {
                grounded = of_privates.grounded;
                privates_are = of_privates.is;
                steps_are =
                    subst (λ n. map (step_of (place + 1) factor) g.steps ≡ get_or steps.list n []) same (steps.each place [] within factor g at ground_at);
              };
        },
      )
