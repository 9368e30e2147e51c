-- What the agents count, and what their goals name, is together what the team counts and what its goals name.
use Rattle.std.proofs.Common.{◌≡◌, ℕ, List, map, ◌++◌, All, refl, sym, subst, inl, inr}
use Rattle.std.proofs.lemmas.List.Elements.{Contains-append_left, Contains-append_right, Contains-append_cases}
use Rattle.std.specs.List.{flat_map}
use Rattle.std.specs.Prelude.{Contains, ◌↔◌}
use Rattle.mp_forms.specs.declared.factor.Factor.{Factor}
use Rattle.mp_joint.specs.declared.fact.SignedFact.{SignedFact}
use Rattle.mp_joint.specs.FactorContribution.{factor_contribution, team_of}
use Rattle.mp_joint.specs.Plan.{Contribution, joint_goal, joint_never}
use Rattle.mp_stands.specs.Touched.{needed, added, deleted, goals, IsCounted}
use Rattle.mp_stands.proofs.Contributed.{contributed}
use Rattle.mp_list.proofs.Members.{to_map, from_map, from_flat_map}
use Rattle.mp_stands.proofs.Signed.{signed_cases, among_plain, among_complement}
use Rattle.mp_ground_laws.specs.Checked.{IsChecked}
use Rattle.mp_ground_laws.specs.Counted.{touched_by, named_goals}
use Rattle.mp_ground_laws.specs.Grounding.{GroundedStep, GroundedInstance, grounded, grounded_instance}
use Rattle.mp_stands.specs.Knowing.{known_setting, IsCountedByOne, IsGoalOfOne}
use Rattle.mp_stands.proofs.GroundedSteps.{IsAgent, to_team, from_team, same_needed, same_added, same_deleted}
use Rattle.mp_stands.proofs.JoinedLists.{in_parts}
use Rattle.mp_stands.proofs.Starting.{contributes}

-- ---- goals

one_goal : (team : List Factor) (x : SignedFact) → IsGoalOfOne team x → Contains (goals team) x
one_goal team x h =
    let mine = factor_contribution h.me h.factor in
    let there = contributes team h.me h.factor h.at in
    let all = joint_goal (team_of team) in
    let avoided = joint_never (team_of team) in
    elim (signed_cases mine.goal mine.never x h.names) [
      | inl found ↦
          subst (Contains (goals team)) found.2
          (among_plain all avoided found.0 (in_parts (λ (c : Contribution). c.goal) (team_of team) mine found.0 there found.1))
      | inr found ↦
          subst (Contains (goals team)) found.2
          (among_complement all avoided found.0 (in_parts (λ (c : Contribution). c.never) (team_of team) mine found.0 there found.1))
    ]

goal_of_one : (team : List Factor) (x : SignedFact) → Contains (goals team) x → IsGoalOfOne team x
goal_of_one team x h =
    elim (signed_cases (joint_goal (team_of team)) (joint_never (team_of team)) x h) [
      | inl found ↦
          let from = from_flat_map (λ (c : Contribution). c.goal) (team_of team) found.0 found.1 in
          let by = contributed team from.0 from.1 in
          let mine = factor_contribution by.agent by.factor in
          let there : Contains mine.goal found.0 = subst (λ (c : Contribution). Contains c.goal found.0) (sym by.is) from.2 in
          subst (IsGoalOfOne team) found.2
          (record { me = by.agent; factor = by.factor; at = by.at; names = among_plain mine.goal mine.never found.0 there })
      | inr found ↦
          let from = from_flat_map (λ (c : Contribution). c.never) (team_of team) found.0 found.1 in
          let by = contributed team from.0 from.1 in
          let mine = factor_contribution by.agent by.factor in
          let there : Contains mine.never found.0 = subst (λ (c : Contribution). Contains c.never found.0) (sym by.is) from.2 in
          subst (IsGoalOfOne team) found.2
          (record { me = by.agent; factor = by.factor; at = by.at; names = among_complement mine.goal mine.never found.0 there })
    ]

pub same_goals : (team : List Factor) (x : SignedFact) → Contains (goals team) x ↔ IsGoalOfOne team x
same_goals team x = (goal_of_one team x, one_goal team x)

-- ---- what is counted

same_touched : (team : List Factor) (me : ℕ) (factor : Factor) (g : GroundedStep)
    → touched_by (grounded_instance (known_setting team me factor) g) ≡ needed team factor g.instance ++ added team factor g.instance ++ deleted team factor g.instance
same_touched team me factor g = λ j.
    same_needed team me factor g.instance j ++ same_added team me factor g.instance j ++ same_deleted team me factor g.instance j

abbrev instances : List Factor → ℕ → Factor → List GroundedInstance
instances team me factor = map (grounded_instance (known_setting team me factor)) (grounded me factor (known_setting team me factor))

one_counts : (team : List Factor) (x : SignedFact) → All IsChecked team → IsCountedByOne team x → IsCounted team x
one_counts team x all h =
    let setting = known_setting team h.me h.factor in
    let agent : IsAgent team h.me h.factor = record { all = all; at = h.at } in
    elim (Contains-append_cases (flat_map touched_by (instances team h.me h.factor)) (named_goals h.me h.factor) x h.counts) [
      | inl touched ↦
          let of = from_flat_map touched_by (instances team h.me h.factor) x touched in
          let from = from_map (grounded_instance setting) (grounded h.me h.factor setting) of.0 of.1 in
          let there : Contains (touched_by (grounded_instance setting from.0)) x = subst (λ (i : GroundedInstance). Contains (touched_by i) x) (sym from.2) of.2 in
          inl (
            from.0.step,
            h.factor,
            from.0.instance,
            record {
              grounded = (to_team team h.me h.factor agent from.0 from.1).is;
              touches = subst (λ xs. Contains xs x) (same_touched team h.me h.factor from.0) there;
            },
          )
      | inr goal ↦ inr (one_goal team x (record { me = h.me; factor = h.factor; at = h.at; names = goal }))
    ]

counts_one : (team : List Factor) (x : SignedFact) → All IsChecked team → IsCounted team x → IsCountedByOne team x
counts_one team x all h =
    elim h [
      | inl touched ↦
          let step = touched.0 in
          let factor = touched.1 in
          let i = touched.2 in
          let by = touched.3 in
          let me = step.agent in
          let setting = known_setting team me factor in
          let agent : IsAgent team me factor = record { all = all; at = by.grounded.factor_is } in
          let g : GroundedStep = record { step = step; instance = i } in
          let listed = from_team team me factor agent g (record { mine = refl; is = by.grounded }) in
          let there : Contains (touched_by (grounded_instance setting g)) x = subst (λ xs. Contains xs x) (sym (same_touched team me factor g)) by.touches in
          record {
            me = me;
            factor = factor;
            at = by.grounded.factor_is;
            counts = Contains-append_left (flat_map touched_by (instances team me factor)) (named_goals me factor) x
                (in_parts touched_by (instances team me factor) (grounded_instance setting g) x
                (to_map (grounded_instance setting) (grounded me factor setting) g listed) there);
          }
      | inr goal ↦
          let one = goal_of_one team x goal in
          record {
            me = one.me;
            factor = one.factor;
            at = one.at;
            counts = Contains-append_right (flat_map touched_by (instances team one.me one.factor)) (named_goals one.me one.factor) x one.names;
          }
    ]

pub same_counted : (team : List Factor) (x : SignedFact) → All IsChecked team → IsCounted team x ↔ IsCountedByOne team x
same_counted team x all = (counts_one team x all, one_counts team x all)
