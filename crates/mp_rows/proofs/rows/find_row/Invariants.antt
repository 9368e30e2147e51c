use Rattle.std.proofs.Common.{◌++◌, length}
use Rattle.mp_rows.proofs.FindLemmas.{IsScan}
use Rattle.mp_rows.proofs.rows.find_row.Given as goal

abbrev pub invariant-loop-last : goal.invariant-loop-last
invariant-loop-last l = IsScan l.words l.links (length l.heads) (l.front ++ l.back) l.last

abbrev pub decreases-loop-last : goal.decreases-loop-last
decreases-loop-last l = l.last
