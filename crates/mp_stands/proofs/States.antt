-- Joint states and states by names that match, and that an own action may be applied where its instance may.
use Rattle.std.proofs.Common.{◌≡◌, ℕ, List, Bool, true, false, not, ◌&&◌, ◌||◌, inl, inr, refl, ap, sym, ◌∙◌, subst, Some}
use Rattle.std.proofs.lemmas.Bool.{and_parts, and_from, cases_Bool, not_from_false, false≢true}
use Rattle.std.specs.List.{list_all, filter}
use Rattle.std.specs.Prelude.{Contains}
use Rattle.mp_list.proofs.Bools.{same_tests}
use Rattle.mp_list.proofs.Members.{all_at}
use Rattle.mp_forms.specs.declared.factor.Factor.{Factor}
use Rattle.mp_typing.proofs.Passing.{taken_passes, taken_from_passes}
use Rattle.mp_joint.specs.declared.fact.NamedFact.{NamedFact}
use Rattle.mp_joint.specs.declared.fact.SignedFact.{SignedFact}
use Rattle.mp_joint.specs.Fact.{plain, complement}
use Rattle.mp_joint.specs.FactorContribution.{team_of}
use Rattle.mp_joint.specs.Instance as named
use Rattle.mp_joint.specs.Instance.{Instance, State, holds, all_true, none_true}
use Rattle.mp_joint.specs.Plan as joint
use Rattle.mp_task.specs.AgentTask.{AgentTask}
use Rattle.mp_task.specs.Plan.{JointState, IsJointState, private_of}
use Rattle.mp_stands.specs.Numbering.{Numbering, privates_of}
use Rattle.mp_stands.specs.Touched.{factor_of, is_static_fact, suits_start, needed}
use Rattle.mp_stands.proofs.MemberLists.{all_from}
use Rattle.mp_stands.proofs.Owners.{IsFactOf}
use Rattle.mp_stands.proofs.Contributed.{IsSound}
use Rattle.mp_stands.proofs.NamedNumbers.{Fits}
use Rattle.mp_stands.proofs.Signed.{signed_cases, among_plain, among_complement}

-- the static facts are as they were at the start
abbrev pub AreStaticFacts : List Factor → State → Type 0
AreStaticFacts team s =
    (agent : ℕ) (factor : Factor) (f : NamedFact) → factor_of team agent ≡ Some factor → IsFactOf agent factor f
    → is_static_fact team factor f ≡ true → s f ≡ joint.joint_start (team_of team) f

-- what has a number is true by number exactly where it is true by name
pub record Matches (team : List Factor) (numbering : Numbering) (tasks : List AgentTask) (numbers : JointState) (s : State) : Type 0 where
  pub joint : IsJointState tasks numbers
  pub publics : Fits numbering.publics numbers.publics (holds s)
  pub privates : (t : AgentTask) → Contains tasks t → Fits (privates_of numbering t.me) (private_of numbers t.me) (holds s)
  pub statics : AreStaticFacts team s

or_other : (a b : Bool) → (not a || b) ≡ true → a ≡ true → b ≡ true
or_other true b h is = h
or_other false b h is = absurd (false≢true is)

not_both : (a b : Bool) → not (a && b) ≡ true → a ≡ true → not b ≡ true
not_both true b h is = h
not_both false b h is = absurd (false≢true is)

-- an instance with static preconditions that suit the start may be applied exactly where the others hold
module _ (team : List Factor) (agent : ℕ) (factor : Factor) (i : Instance) (s : State)
    (at : factor_of team agent ≡ Some factor) (sound : IsSound agent factor i) (statics : AreStaticFacts team s) where
  abbrev changes : NamedFact → Bool
  changes f = not (is_static_fact team factor f)

  abbrev started : NamedFact → Bool
  started f = joint.joint_start (team_of team) f

  positive_holds : list_all (holds s) (needed team factor i) ≡ true
      → list_all (λ f. not (is_static_fact team factor f) || started f) i.positive ≡ true
      → (f : NamedFact) → Contains i.positive f → s f ≡ true
  positive_holds all suits f here =
      elim (cases_Bool (is_static_fact team factor f)) [
        | inl static ↦
            statics agent factor f at (sound.positive f here) static
            ∙ or_other (is_static_fact team factor f) (started f) (all_at (λ g. not (is_static_fact team factor g) || started g) i.positive f suits here) static
        | inr other ↦
            all_at (holds s) (needed team factor i) (plain f) all
            (among_plain (filter changes i.positive) (filter changes i.negative) f
            (taken_from_passes changes i.positive f here (not_from_false (is_static_fact team factor f) other)))
      ]

  negative_fails : list_all (holds s) (needed team factor i) ≡ true
      → list_all (λ f. not (is_static_fact team factor f && started f)) i.negative ≡ true
      → (f : NamedFact) → Contains i.negative f → not (s f) ≡ true
  negative_fails all suits f here =
      elim (cases_Bool (is_static_fact team factor f)) [
        | inl static ↦
            ap not (statics agent factor f at (sound.negative f here).0 static)
            ∙ not_both (is_static_fact team factor f) (started f) (all_at (λ g. not (is_static_fact team factor g && started g)) i.negative f suits here) static
        | inr other ↦
            all_at (holds s) (needed team factor i) (complement f) all
            (among_complement (filter changes i.positive) (filter changes i.negative) f
            (taken_from_passes changes i.negative f here (not_from_false (is_static_fact team factor f) other)))
      ]

  needs_hold : named.applies i s ≡ true → (x : SignedFact) → Contains (needed team factor i) x → holds s x ≡ true
  needs_hold may x here =
      let parts = and_parts (all_true s i.positive) (none_true s i.negative) may in
      elim (signed_cases (filter changes i.positive) (filter changes i.negative) x here) [
        | inl found ↦
            subst (λ (y : SignedFact). holds s y ≡ true) found.2 (all_at s i.positive found.0 parts.0 (taken_passes changes i.positive found.0 found.1).0)
        | inr found ↦
            subst (λ (y : SignedFact). holds s y ≡ true) found.2
            (all_at (λ f. not (s f)) i.negative found.0 parts.1 (taken_passes changes i.negative found.0 found.1).0)
      ]

  pub same_needs : suits_start team factor i ≡ true → list_all (holds s) (needed team factor i) ≡ named.applies i s
  same_needs suits =
      let parts = and_parts (list_all (λ f. not (is_static_fact team factor f) || started f) i.positive)
      (list_all (λ f. not (is_static_fact team factor f && started f)) i.negative) suits in
      same_tests (list_all (holds s) (needed team factor i)) (named.applies i s)
      (λ all.
      and_from (all_true s i.positive) (none_true s i.negative)
      (all_from s i.positive (positive_holds all parts.0))
      (all_from (λ f. not (s f)) i.negative (negative_fails all parts.1)))
      (λ may. all_from (holds s) (needed team factor i) (needs_hold may))

  -- where the instance may be applied, its static preconditions suit the start
  pub static_suits : named.applies i s ≡ true → suits_start team factor i ≡ true
  static_suits may =
      let parts = and_parts (all_true s i.positive) (none_true s i.negative) may in
      and_from (list_all (λ f. not (is_static_fact team factor f) || started f) i.positive)
      (list_all (λ f. not (is_static_fact team factor f && started f)) i.negative)
      (all_from (λ f. not (is_static_fact team factor f) || started f) i.positive (λ f here.
      or_since (is_static_fact team factor f) (started f) (λ static.
      sym (statics agent factor f at (sound.positive f here) static) ∙ all_at s i.positive f parts.0 here)))
      (all_from (λ f. not (is_static_fact team factor f && started f)) i.negative (λ f here.
      not_both_since (is_static_fact team factor f) (started f) (λ static.
      ap not (sym (statics agent factor f at (sound.negative f here).0 static)) ∙ all_at (λ g. not (s g)) i.negative f parts.1 here)))
    where
      or_since : (a b : Bool) → (a ≡ true → b ≡ true) → (not a || b) ≡ true
      or_since true b h = h refl
      or_since false b h = refl

      not_both_since : (a b : Bool) → (a ≡ true → not b ≡ true) → not (a && b) ≡ true
      not_both_since true b h = h refl
      not_both_since false b h = refl
