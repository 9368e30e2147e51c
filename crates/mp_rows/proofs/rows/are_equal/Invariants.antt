use Rattle.std.proofs.Common.{◌≡◌, take}
use Rattle.mp_rows.proofs.rows.are_equal.Given as goal

abbrev pub invariant-loop-at : goal.invariant-loop-at
invariant-loop-at l = take l.at l.words ≡ take l.at l.others
