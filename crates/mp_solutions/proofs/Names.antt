-- What the own actions of an agent stand for is at the agent's place.
use Rattle.std.proofs.Common.{◌≡◌, ℕ, zero, suc, ◌+◌, ◌<◌, ◌≤◌, List, [], ◌∷◌, map, length, Some, sym, ap, ◌∙◌, subst, inl, inr, arith}
use Rattle.std.specs.Prelude.{Contains, slice_get}
use Rattle.std.proofs.lemmas.Option.{none-some, same_Some, slice_get_cases}
use Rattle.mp_forms.specs.declared.factor.Factor.{Factor}
use Rattle.mp_joint.specs.declared.plan.PlanStep.{PlanStep}
use Rattle.mp_stands.specs.Numbering.{Numbering, steps_of}
use Rattle.mp_list.proofs.Members.{from_map}
use Rattle.mp_ground_laws.specs.Named.{step_of}
use Rattle.mp_grounder.specs.declared.grounded.Ground.{Ground}
use Rattle.mp_split.specs.Team.{AreTasksOf}
use Rattle.mp_split.specs.declared.team.Tasks.{Tasks}
use Rattle.mp_stands.specs.Numbered.{IsNumberingOf}
use Rattle.mp_text.specs.Outcome.{names_at}
use Rattle.mp_outcome.specs.Names.{names_from, names_of}
use Rattle.mp_solutions.proofs.PlanTexts.{AreOwn}

named_at : (agent : ℕ) (team : List Factor) (grounds : List Ground) (place : ℕ) (factor : Factor) (g : Ground)
    → slice_get team place ≡ Some factor → slice_get grounds place ≡ Some g
    → map (step_of (agent + place) factor) g.steps ≡ names_at (names_from agent team (map (λ (x : Ground). x.steps) grounds)) place
named_at agent [] grounds place factor g at ground_at = absurd (none-some factor at)
named_at agent (f ∷ fs) [] place factor g at ground_at = absurd (none-some g ground_at)
named_at agent (f ∷ fs) (h ∷ hs) zero factor g at ground_at =
    let factors : factor ≡ f = sym (same_Some f factor at) in
    let grounds_are : g ≡ h = sym (same_Some h g ground_at) in
    let number : agent + 0 ≡ agent = omega arith in
    λ i. map (step_of (number i) (factors i)) (grounds_are i).steps
named_at agent (f ∷ fs) (h ∷ hs) (suc k) factor g at ground_at =
    let number : agent + suc k ≡ agent + 1 + k = omega arith in
    ap (λ (n : ℕ). map (step_of n factor) g.steps) number ∙ named_at (agent + 1) fs hs k factor g at ground_at

module _ (team : List Factor) (t : Tasks) (are : AreTasksOf team t) (numbering : Numbering) (is : IsNumberingOf team are.grounds numbering) where
  -- the factor of an agent, and what it is grounded to
  record HasGround (place : ℕ) : Type 0 where
    factor : Factor
    ground : Ground
    at : slice_get team place ≡ Some factor
    ground_at : slice_get are.grounds place ≡ Some ground

  has_ground : (place : ℕ) → place < length team → HasGround place
  has_ground place less =
      elim ((slice_get_cases team place).1) [
        | inl of_team ↦
            elim ((slice_get_cases are.grounds place).1) [
              | inl of_grounds ↦ record { factor = of_team.0; ground = of_grounds.0; at = of_team.2; ground_at = of_grounds.2 }
              | inr past ↦ let same = are.grounded.one_each in absurd (omega (arith, less, past.0, same))
            ]
        | inr past ↦ absurd (omega (arith, less, past.0))
      ]

  -- an agent's numbers stand for the steps at its place
  pub names_are : (place : ℕ) → place < length team → steps_of numbering (place + 1) ≡ names_at (names_of team t.steps) place
  names_are place less =
      let h = has_ground place less in
      let number : place + 1 ≡ 1 + place = omega arith in
      sym (is.own place h.factor h.ground h.at h.ground_at).steps_are
      ∙ ap (λ (n : ℕ). map (step_of n h.factor) h.ground.steps) number
      ∙ named_at 1 team are.grounds place h.factor h.ground h.at h.ground_at
      ∙ ap (λ steps. names_at (names_of team steps) place) (sym are.steps)

  own_at : (place : ℕ) → place < length team → AreOwn numbering (place + 1)
  own_at place less step found =
      let h = has_ground place less in
      let all = (is.own place h.factor h.ground h.at h.ground_at).steps_are in
      let from = from_map (step_of (place + 1) h.factor) h.ground.steps step (subst (λ (xs : List PlanStep). Contains xs step) (sym all) found) in
      sym (ap (λ (s : PlanStep). s.agent) from.2)

  -- and each of them is a step of the agent
  pub steps_are_own : (agent : ℕ) → 1 ≤ agent → agent ≤ length team → AreOwn numbering agent
  steps_are_own zero low high = absurd (omega (arith, low))
  steps_are_own (suc k) low high =
      let number : k + 1 ≡ suc k = omega arith in
      subst (AreOwn numbering) number (own_at k (omega (arith, high)))
