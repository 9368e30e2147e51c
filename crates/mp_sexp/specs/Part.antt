-- What the byte before the next one belongs to.
use Rattle.std.specs.Prelude.{ℕ, List}
use Rattle.mp_sexp.specs.declared.tree.Place.{Place}

pub data Part : Type 0 where
  Gap : Part
  Comment : Part
  -- a word that may go on: its bytes so far, folded, and where it begins
  Word : List ℕ → Place → Part
