-- What an agent knows where it grounds its factor, and what the agents of a team count by that.
use Rattle.std.specs.Prelude.{◌≡◌, ℕ, List, Some, Contains}
use Rattle.mp_forms.specs.declared.factor.Factor.{Factor}
use Rattle.mp_joint.specs.declared.fact.SignedFact.{SignedFact}
use Rattle.mp_joint.specs.Grounded.{Setting}
use Rattle.mp_lifting.specs.Views.{setting_of}
use Rattle.mp_stands.specs.Touched.{factor_of}
use Rattle.mp_ground_laws.specs.Counted.{counted_facts, named_goals}
use Rattle.mp_split.specs.Team.{open_views}

-- what an agent with this factor knows, by its own files and by what all agents show before grounding
abbrev pub known_setting : List Factor → ℕ → Factor → Setting
known_setting team me factor = setting_of me factor (open_views team)

-- an agent of the team counts it, by what that agent knows
pub record IsCountedByOne (team : List Factor) (x : SignedFact) : Type 0 where
  pub me : ℕ
  pub factor : Factor
  pub at : factor_of team me ≡ Some factor
  pub counts : Contains (counted_facts me factor (known_setting team me factor)) x

-- the goals of an agent of the team name it
pub record IsGoalOfOne (team : List Factor) (x : SignedFact) : Type 0 where
  pub me : ℕ
  pub factor : Factor
  pub at : factor_of team me ≡ Some factor
  pub names : Contains (named_goals me factor) x
