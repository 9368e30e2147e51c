-- A message with the stamp of the entry that puts it or takes it.
use Rattle.std.specs.Prelude.{ℕ, List}

pub record Mail : Type 0 where
  pub stamp : ℕ
  pub bytes : List ℕ
