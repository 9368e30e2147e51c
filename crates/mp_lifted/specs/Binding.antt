-- What stands for the parameters of an action.
use Rattle.std.specs.Prelude.{ℕ, List}

-- the place of the action in its factor, from 0, the object for each parameter, by its number, and what the action costs with
-- them
pub record ActionBinding : Type 0 where
  pub action : ℕ
  pub objects : List ℕ
  pub cost : ℕ
