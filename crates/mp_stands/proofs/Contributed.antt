-- What is known of the instances, goals and facts that the factors of a team contribute.
use Rattle.std.proofs.Common.{◌≡◌, ℕ, zero, suc, ◌+◌, List, [], ◌∷◌, true, ◌||◌, refl, ap, sym, ◌∙◌, subst, arith, Option, Some, None}
use Rattle.std.proofs.lemmas.Bool.{or_left, or_right}
use Rattle.std.proofs.lemmas.Option.{none-some, same_Some, option_and_then_some}
use Rattle.std.proofs.lemmas.Slice.Eq.{bytes_eq-Decides}
use Rattle.std.specs.List.{list_any, find}
use Rattle.std.specs.Option.{option_map, option_and_then}
use Rattle.std.specs.Prelude.{Contains, slice_get}
use Rattle.std.specs.Str.{bytes_eq}
use Rattle.mp_list.proofs.Members.{any_from, from_map, from_flat_map}
use Rattle.mp_forms.specs.declared.factor.Factor.{Factor}
use Rattle.mp_forms.specs.declared.typed_values.Typed.{Typed}
use Rattle.mp_forms.specs.declared.atom_values.Atom.{Atom}
use Rattle.mp_forms.specs.declared.schema_values.Schema.{Schema}
use Rattle.mp_joint.specs.declared.fact.NamedFact.{NamedFact}
use Rattle.mp_joint.specs.declared.plan.PlanStep.{PlanStep}
use Rattle.mp_joint.specs.Fact.{Text}
use Rattle.mp_joint.specs.FactorContribution.{privates_of, facts_of, may_stand_for, instance_with, instance_of_schema, instance_at, factor_contribution, contributions_from, team_of}
use Rattle.mp_joint.specs.Grounding.{asked_atoms, negated_atoms, fact_of, cost_of}
use Rattle.mp_joint.specs.Instance.{Instance}
use Rattle.mp_joint.specs.Plan.{Contribution, contribution_of, instance_of, joint_goal, joint_never}
use Rattle.mp_joint.specs.Static.{stands_in, is_changed_in, is_under_not_in}
use Rattle.mp_stands.specs.Touched.{factor_of, IsGrounded}
use Rattle.mp_stands.proofs.MemberLists.{found_in, has_place, chosen, mapped}
use Rattle.mp_stands.proofs.Owners.{IsFactOf}

-- the fact is that of an agent, and one of these atoms has its predicate
record IsFromAtoms (agent : ℕ) (factor : Factor) (atoms : List Atom) (f : NamedFact) : Type 0 where
  of : IsFactOf agent factor f
  stands : stands_in f.predicate atoms ≡ true

from_atoms : (agent : ℕ) (factor : Factor) (params : List Typed) (objects : List Text) (atoms : List Atom) (f : NamedFact)
    → Contains (facts_of agent factor params objects atoms) f → IsFromAtoms agent factor atoms f
from_atoms agent factor params objects atoms f found =
    let atom = from_map (fact_of agent (privates_of factor) params objects) atoms f found in
    subst (IsFromAtoms agent factor atoms) atom.2 (record {
      of = record { rule = refl };
      stands =
          any_from (λ (b : Atom). bytes_eq atom.0.word.name b.word.name) atoms atom.0 atom.1
          ((bytes_eq-Decides atom.0.word.name atom.0.word.name).1 refl);
    })

-- the facts of an instance are those of its agent, it changes what its factor changes, and has under `not` what that has
pub record IsSound (agent : ℕ) (factor : Factor) (i : Instance) : Type 0 where
  pub positive : (f : NamedFact) → Contains i.positive f → IsFactOf agent factor f
  pub negative : (f : NamedFact) → Contains i.negative f → IsFactOf agent factor f × (is_under_not_in f.predicate factor ≡ true)
  pub add : (f : NamedFact) → Contains i.add f → IsFactOf agent factor f × (is_changed_in f.predicate factor ≡ true)
  pub del : (f : NamedFact) → Contains i.del f → IsFactOf agent factor f × (is_changed_in f.predicate factor ≡ true)

with_is_sound : (agent : ℕ) (factor : Factor) (schema : Schema) (objects : List Text) (cost : ℕ) → Contains factor.domain.schemas schema
    → IsSound agent factor (instance_with agent factor schema objects cost)
with_is_sound agent factor schema objects cost listed = record {
  positive = λ f here. (from_atoms agent factor schema.params objects (asked_atoms schema.pre) f here).of;
  negative = λ f here.
      let from = from_atoms agent factor schema.params objects (negated_atoms schema.pre) f here in (
        from.of,
        or_left (list_any (λ (s : Schema). stands_in f.predicate (negated_atoms s.pre)) factor.domain.schemas)
            (stands_in f.predicate (negated_atoms factor.problem.goals))
            (any_from (λ (s : Schema). stands_in f.predicate (negated_atoms s.pre)) factor.domain.schemas schema listed from.stands),
      );
  add = λ f here.
      let from = from_atoms agent factor schema.params objects schema.add f here in (
        from.of,
        any_from (λ (s : Schema). stands_in f.predicate s.add || stands_in f.predicate s.del) factor.domain.schemas schema listed
            (or_left (stands_in f.predicate schema.add) (stands_in f.predicate schema.del) from.stands),
      );
  del = λ f here.
      let from = from_atoms agent factor schema.params objects schema.del f here in (
        from.of,
        any_from (λ (s : Schema). stands_in f.predicate s.add || stands_in f.predicate s.del) factor.domain.schemas schema listed
            (or_right (stands_in f.predicate schema.add) (stands_in f.predicate schema.del) from.stands),
      );
}

at_is_sound : (agent : ℕ) (factor : Factor) (name : Text) (objects : List Text) (i : Instance) → instance_at agent factor name objects ≡ Some i → IsSound agent factor i
at_is_sound agent factor name objects i h =
    option_and_then_some (instance_of_schema agent factor objects) (find (λ (s : Schema). bytes_eq s.word.name name) factor.domain.schemas) i h (λ schema there made.
    let taken = chosen (may_stand_for factor schema.params objects)
    (option_map (instance_with agent factor schema objects) (cost_of factor.problem.metric factor.problem.values schema.params objects schema.increases)) i made in
    let cost = mapped (instance_with agent factor schema objects) (cost_of factor.problem.metric factor.problem.values schema.params objects schema.increases) i taken.1 in
    subst (IsSound agent factor) cost.2
    (with_is_sound agent factor schema objects cost.0 (found_in (λ (s : Schema). bytes_eq s.word.name name) factor.domain.schemas schema there)))

at_place : (n : ℕ) (factors : List Factor) (k : ℕ) → slice_get (contributions_from n factors) k ≡ option_map (factor_contribution (n + k)) (slice_get factors k)
at_place n [] k = refl
at_place n (factor ∷ factors) zero = ap (λ m. Some (factor_contribution m factor)) (let e : n ≡ n + 0 = omega arith in e)
at_place n (factor ∷ factors) (suc k) =
    at_place (n + 1) factors k ∙ ap (λ m. option_map (factor_contribution m) (slice_get factors k)) (let e : (n + 1) + k ≡ n + suc k = omega arith in e)

-- each agent contributes what its factor does
pub contribution_is : (team : List Factor) (agent : ℕ) → contribution_of (team_of team) agent ≡ option_map (factor_contribution agent) (factor_of team agent)
contribution_is team zero = refl
contribution_is team (suc k) = at_place 1 team k ∙ ap (λ m. option_map (factor_contribution m) (slice_get team k)) (let e : 1 + k ≡ suc k = omega arith in e)

-- the instance of a step is one of the factor of the step's agent
pub record IsOfFactor (team : List Factor) (step : PlanStep) (i : Instance) : Type 0 where
  pub factor : Factor
  pub at : factor_of team step.agent ≡ Some factor
  pub sound : IsSound step.agent factor i

pub instance_from : (team : List Factor) (step : PlanStep) (i : Instance) → instance_of (team_of team) step ≡ Some i → IsOfFactor team step i
instance_from team step i h =
    by (factor_of team step.agent) refl (sym (ap (option_and_then (λ (c : Contribution). c.instance_at step.action step.args)) (contribution_is team step.agent)) ∙ h)
  where
    by : (o : Option Factor) → factor_of team step.agent ≡ o
        → option_and_then (λ (c : Contribution). c.instance_at step.action step.args) (option_map (factor_contribution step.agent) o) ≡ Some i → IsOfFactor team step i
    by None at made = absurd (none-some i made)
    by (Some factor) at made = record { factor = factor; at = at; sound = at_is_sound step.agent factor step.action step.args i made }

-- what the team's contributions have together, some agent's factor contributes
pub record IsOfAgent (team : List Factor) (c : Contribution) : Type 0 where
  pub agent : ℕ
  pub factor : Factor
  pub at : factor_of team agent ≡ Some factor
  pub is : factor_contribution agent factor ≡ c

pub contributed : (team : List Factor) (c : Contribution) → Contains (team_of team) c → IsOfAgent team c
contributed team c here =
    let place = has_place (team_of team) c here in
    let factor = mapped (factor_contribution (suc place.0)) (slice_get team place.0) c (sym (contribution_is team (suc place.0)) ∙ place.1) in
    record { agent = suc place.0; factor = factor.0; at = factor.1; is = factor.2 }

-- a fact of an agent of the team
pub record HasAgent (team : List Factor) (f : NamedFact) : Type 0 where
  pub agent : ℕ
  pub factor : Factor
  pub at : factor_of team agent ≡ Some factor
  pub of : IsFactOf agent factor f

-- the goals are facts of agents of the team
pub goal_has_agent : (team : List Factor) (f : NamedFact) → Contains (joint_goal (team_of team)) f → HasAgent team f
goal_has_agent team f here =
    let from = from_flat_map (λ (c : Contribution). c.goal) (team_of team) f here in
    let mine = contributed team from.0 from.1 in
    let there : Contains (factor_contribution mine.agent mine.factor).goal f = subst (λ (c : Contribution). Contains c.goal f) (sym mine.is) from.2 in
    record {
      agent = mine.agent;
      factor = mine.factor;
      at = mine.at;
      of = (from_atoms mine.agent mine.factor [] [] (asked_atoms mine.factor.problem.goals) f there).of;
    }

-- and those that are to be false stand under `not`
pub record IsNegatedByAgent (team : List Factor) (f : NamedFact) : Type 0 where
  pub has : HasAgent team f
  pub negated : is_under_not_in f.predicate has.factor ≡ true

pub never_has_agent : (team : List Factor) (f : NamedFact) → Contains (joint_never (team_of team)) f → IsNegatedByAgent team f
never_has_agent team f here =
    let from = from_flat_map (λ (c : Contribution). c.never) (team_of team) f here in
    let mine = contributed team from.0 from.1 in
    let there : Contains (factor_contribution mine.agent mine.factor).never f = subst (λ (c : Contribution). Contains c.never f) (sym mine.is) from.2 in
    let atoms = from_atoms mine.agent mine.factor [] [] (negated_atoms mine.factor.problem.goals) f there in
    record {
      has = record { agent = mine.agent; factor = mine.factor; at = mine.at; of = atoms.of };
      negated =
          or_right (list_any (λ (s : Schema). stands_in f.predicate (negated_atoms s.pre)) mine.factor.domain.schemas)
          (stands_in f.predicate (negated_atoms mine.factor.problem.goals)) atoms.stands;
    }

-- so it is with a grounded instance
pub grounded_is_sound : (team : List Factor) (step : PlanStep) (factor : Factor) (i : Instance) → IsGrounded team step factor i → IsSound step.agent factor i
grounded_is_sound team step factor i grounded =
    let from = instance_from team step i grounded.instance_is in
    subst (λ (F : Factor). IsSound step.agent F i) (same_Some from.factor factor (sym from.at ∙ grounded.factor_is)) from.sound
