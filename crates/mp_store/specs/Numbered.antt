-- Records whose keys are numbers: 0 for the first key that was kept, and the next number for each
-- new one.
use Rattle.std.specs.Prelude.{ℕ}
use Rattle.mp_store.specs.Record.{Record}

pub record NumberedRecord : Type 0 where
  pub kept : Record ℕ
  -- how many different keys there are
  pub keys : ℕ
