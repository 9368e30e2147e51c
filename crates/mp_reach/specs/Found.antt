-- What searchers that send each other states have found (A*, Hart, Nilsson and Raphael 1968;
-- MAD-A*, Nissim and Brafman 2014), whatever states are.
use Rattle.std.specs.Prelude.{ℕ, Option, List}
use Rattle.mp_store.specs.declared.entry.Mark.{Mark}

-- a state that was reached: at which cost, what is to be paid from there on at least, and whether
-- it is still to be expanded
pub record Entry (S : Type 0) : Type 0 where
  pub state : S
  pub cost : ℕ
  pub estimate : ℕ
  pub mark : Mark

-- a state in a message
pub record Message (S : Type 0) : Type 0 where
  pub state : S
  pub cost : ℕ
  pub estimate : ℕ

-- entries by an index of any kind, all messages that were sent, and those that are under way
pub record Found (I S : Type 0) : Type 0 where
  pub entry : I → Option (Entry S)
  pub sent : List (Message S)
  pub under_way : List (Message S)
