-- What is counted is a fact of an agent of the team, under `not` where it is a complement.
use Rattle.std.proofs.Common.{◌≡◌, ℕ, List, true, false, not, ◌&&◌, ◌++◌, inl, inr, refl, ◌∙◌, subst, Some}
use Rattle.std.proofs.lemmas.Bool.{true≢false, and_parts}
use Rattle.std.proofs.lemmas.List.Elements.{Contains-append_cases}
use Rattle.std.specs.List.{filter}
use Rattle.std.specs.Prelude.{Contains}
use Rattle.mp_forms.specs.declared.factor.Factor.{Factor}
use Rattle.mp_typing.proofs.Passing.{taken_passes}
use Rattle.mp_joint.specs.declared.fact.NamedFact.{NamedFact}
use Rattle.mp_joint.specs.declared.fact.SignedFact.{SignedFact}
use Rattle.mp_joint.specs.declared.plan.PlanStep.{PlanStep}
use Rattle.mp_joint.specs.Fact.{is_among, plain, complement}
use Rattle.mp_joint.specs.FactorContribution.{team_of}
use Rattle.mp_joint.specs.Instance.{Instance}
use Rattle.mp_joint.specs.Plan.{joint_goal, joint_never}
use Rattle.mp_joint.specs.Static.{is_under_not_in}
use Rattle.mp_stands.specs.Touched.{factor_of, is_static_fact, has_complement, needed, added, deleted, IsGrounded, IsTouchedBy, IsCounted, goals}
use Rattle.mp_stands.proofs.Contributed.{IsSound, HasAgent, grounded_is_sound, goal_has_agent, never_has_agent}
use Rattle.mp_stands.proofs.Owners.{IsFactOf, own_so, so_alike}
use Rattle.mp_stands.proofs.Signed.{signed_cases}

pub record IsHad (team : List Factor) (x : SignedFact) : Type 0 where
  pub has : HasAgent team x.fact
  pub negated : x.positive ≡ false → has_complement team has.factor x.fact ≡ true

plain_had : (team : List Factor) (f : NamedFact) → HasAgent team f → IsHad team (plain f)
plain_had team f has = record { has = has; negated = λ e. absurd (true≢false e) }

complement_had : (team : List Factor) (f : NamedFact) (has : HasAgent team f) → has_complement team has.factor f ≡ true → IsHad team (complement f)
complement_had team f has negated = record { has = has; negated = λ _. negated }

pub goal_had : (team : List Factor) (x : SignedFact) → Contains (goals team) x → IsHad team x
goal_had team x here =
    elim (signed_cases (joint_goal (team_of team)) (joint_never (team_of team)) x here) [
      | inl found ↦ subst (IsHad team) found.2 (plain_had team found.0 (goal_has_agent team found.0 found.1))
      | inr found ↦
          let never = never_has_agent team found.0 found.1 in
          subst (IsHad team) found.2
          (complement_had team found.0 never.has
          (own_so is_under_not_in team never.has.agent never.has.factor found.0.predicate never.has.at never.negated))
    ]

module _ (team : List Factor) (step : PlanStep) (factor : Factor) (i : Instance) (grounded : IsGrounded team step factor i) (sound : IsSound step.agent factor i) where
  abbrev agent_has : (f : NamedFact) → IsFactOf step.agent factor f → HasAgent team f
  agent_has f of = record { agent = step.agent; factor = factor; at = grounded.factor_is; of = of }

  needed_had : (x : SignedFact) → Contains (needed team factor i) x → IsHad team x
  needed_had x here =
      elim (signed_cases (filter (λ f. not (is_static_fact team factor f)) i.positive) (filter (λ f. not (is_static_fact team factor f)) i.negative) x here) [
        | inl found ↦
            let listed = (taken_passes (λ f. not (is_static_fact team factor f)) i.positive found.0 found.1).0 in
            subst (IsHad team) found.2 (plain_had team found.0 (agent_has found.0 (sound.positive found.0 listed)))
        | inr found ↦
            let listed = (taken_passes (λ f. not (is_static_fact team factor f)) i.negative found.0 found.1).0 in
            let both = sound.negative found.0 listed in
            subst (IsHad team) found.2
            (complement_had team found.0 (agent_has found.0 both.0)
            (own_so is_under_not_in team step.agent factor found.0.predicate grounded.factor_is both.1))
      ]

  added_had : (x : SignedFact) → Contains (added team factor i) x → IsHad team x
  added_had x here =
      elim (signed_cases i.add (filter (λ f. has_complement team factor f && not (is_among f i.add)) i.del) x here) [
        | inl found ↦ subst (IsHad team) found.2 (plain_had team found.0 (agent_has found.0 (sound.add found.0 found.1).0))
        | inr found ↦
            let passes = taken_passes (λ f. has_complement team factor f && not (is_among f i.add)) i.del found.0 found.1 in
            subst (IsHad team) found.2
            (complement_had team found.0 (agent_has found.0 (sound.del found.0 passes.0).0)
            (and_parts (has_complement team factor found.0) (not (is_among found.0 i.add)) passes.1).0)
      ]

  deleted_had : (x : SignedFact) → Contains (deleted team factor i) x → IsHad team x
  deleted_had x here =
      elim (signed_cases i.del (filter (λ f. has_complement team factor f) i.add) x here) [
        | inl found ↦ subst (IsHad team) found.2 (plain_had team found.0 (agent_has found.0 (sound.del found.0 found.1).0))
        | inr found ↦
            let passes = taken_passes (λ f. has_complement team factor f) i.add found.0 found.1 in
            subst (IsHad team) found.2 (complement_had team found.0 (agent_has found.0 (sound.add found.0 passes.0).0) passes.1)
      ]

touched_had : (team : List Factor) (x : SignedFact) (step : PlanStep) (factor : Factor) (i : Instance) → IsTouchedBy team x step factor i → IsHad team x
touched_had team x step factor i touched =
    let sound = grounded_is_sound team step factor i touched.grounded in
    elim (Contains-append_cases (needed team factor i ++ added team factor i) (deleted team factor i) x touched.touches) [
      | inl first ↦
          elim (Contains-append_cases (needed team factor i) (added team factor i) x first) [
            | inl need ↦ needed_had team step factor i touched.grounded sound x need
            | inr add ↦ added_had team step factor i touched.grounded sound x add
          ]
      | inr del ↦ deleted_had team step factor i touched.grounded sound x del
    ]

pub counted_had : (team : List Factor) (x : SignedFact) → IsCounted team x → IsHad team x
counted_had team x counted =
    elim counted [
      | inl touched ↦ touched_had team x touched.0 touched.1 touched.2 touched.3
      | inr goal ↦ goal_had team x goal
    ]

-- a fact whose complement is counted has one for each agent that has the fact
pub negated_for : (team : List Factor) (f : NamedFact) (agent : ℕ) (factor : Factor) → IsHad team (complement f) → factor_of team agent ≡ Some factor
    → IsFactOf agent factor f → has_complement team factor f ≡ true
negated_for team f agent factor had at of =
    so_alike is_under_not_in team agent had.has.agent factor had.has.factor f at had.has.at of had.has.of ∙ had.negated refl
