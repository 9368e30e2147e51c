-- The grounded factors of the first agents of a team.
use Rattle.std.specs.Prelude.{◌≡◌, ℕ, List, Some, slice_get}
use Rattle.mp_forms.specs.declared.factor.Factor.{Factor}
use Rattle.mp_grounder.specs.declared.grounded.Ground.{Ground}
use Rattle.mp_grounder.specs.Grounded.{IsGrounded, Known}
use Rattle.mp_grounder.specs.Limits.{IsWithin, KeepsLimits}
use Rattle.mp_split.specs.Team.{known_at}

-- this is the grounded factor of what an agent knows, and no count passes its limit
pub record IsBegun (k : Known) (g : Ground) : Type 0 where
  pub grounded : IsGrounded k g
  pub limits : KeepsLimits g
  pub within : IsWithin k

-- that is so for each agent up to here
pub record AreBegun (team : List Factor) (grounds : List Ground) : Type 0 where
  pub each :
      (place : ℕ) (factor : Factor) (g : Ground)
      → slice_get team place ≡ Some factor → slice_get grounds place ≡ Some g
      → IsBegun (known_at team place factor) g
