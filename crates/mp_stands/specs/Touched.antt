-- What the instances of a team's factors ask for and do once static preconditions are left out and
-- complements are facts.
use Rattle.std.specs.Prelude.{◌≡◌, ◌⊎◌, ℕ, zero, suc, Bool, List, ◌++◌, map, Option, None, Some, Contains, IsTrue, slice_get}
use Rattle.mp_forms.specs.declared.factor.Factor.{Factor}
use Rattle.mp_joint.specs.declared.fact.NamedFact.{NamedFact}
use Rattle.mp_joint.specs.declared.fact.SignedFact.{SignedFact}
use Rattle.mp_joint.specs.declared.plan.PlanStep.{PlanStep}
use Rattle.mp_joint.specs.Fact.{plain, complement}
use Rattle.mp_joint.specs.FactorContribution.{team_of}
use Rattle.mp_joint.specs.Grounded.{Setting, is_static_fact as is_static_in, has_complement as has_complement_in, suits_start as suits_start_in, needed as needed_in, added as added_in, deleted as deleted_in}
use Rattle.mp_joint.specs.Instance.{Instance}
use Rattle.mp_joint.specs.Plan.{instance_of, joint_start, joint_goal, joint_never}
use Rattle.mp_joint.specs.Static.{is_static, is_negated}

-- the factor of an agent of a team; agents are numbered from 1
abbrev pub factor_of : List Factor → ℕ → Option Factor
factor_of team zero = None
factor_of team (suc k) = slice_get team k

-- what is known of the predicates of a factor of the team, and the joint start
abbrev pub setting_of : List Factor → Factor → Setting
setting_of team factor =
    record {
      is_static = is_static team factor;
      is_negated = is_negated team factor;
      start = joint_start (team_of team);
    }

-- a fact that an action of this factor has is static, or has a complement
abbrev pub is_static_fact : List Factor → Factor → NamedFact → Bool
is_static_fact team factor = is_static_in (setting_of team factor)

abbrev pub has_complement : List Factor → Factor → NamedFact → Bool
has_complement team factor = has_complement_in (setting_of team factor)

-- what an instance of this factor asks of the start, needs, adds and deletes
abbrev pub suits_start : List Factor → Factor → Instance → Bool
suits_start team factor = suits_start_in (setting_of team factor)

abbrev pub needed : List Factor → Factor → Instance → List SignedFact
needed team factor = needed_in (setting_of team factor)

abbrev pub added : List Factor → Factor → Instance → List SignedFact
added team factor = added_in (setting_of team factor)

abbrev pub deleted : List Factor → Factor → Instance → List SignedFact
deleted team factor = deleted_in (setting_of team factor)

-- a step of the team stands for this instance of this factor, whose static preconditions suit the
-- start
pub record IsGrounded
    (team : List Factor)
    (step : PlanStep)
    (factor : Factor)
    (i : Instance)
    : Type 0 where
  pub factor_is : factor_of team step.agent ≡ Some factor
  pub instance_is : instance_of (team_of team) step ≡ Some i
  pub suits : IsTrue (suits_start team factor i)

-- the goals of the team: the facts that are to be true, and the complements of those that are to be
-- false
abbrev pub goals : List Factor → List SignedFact
goals team = map plain (joint_goal (team_of team)) ++ map complement (joint_never (team_of team))

-- a grounded instance of an agent of the team needs, adds or deletes it
pub record IsTouchedBy
    (team : List Factor)
    (x : SignedFact)
    (step : PlanStep)
    (factor : Factor)
    (i : Instance)
    : Type 0 where
  pub grounded : IsGrounded team step factor i
  pub touches : Contains (needed team factor i ++ added team factor i ++ deleted team factor i) x

-- some grounded instance touches it, or a goal names it
abbrev pub IsCounted : List Factor → SignedFact → Type 0
IsCounted team x =
    ((step : PlanStep) × (factor : Factor) × (i : Instance) × IsTouchedBy team x step factor i)
    ⊎ Contains (goals team) x
