use Rattle.std.proofs.Common.{◌≡◌, ◌≤◌, ◌+◌, length}
use Rattle.mp_sexp.specs.Reading.{run, node_at, state_of}
use Rattle.mp_sexp.proofs.reader.tree_at.Given as goal

abbrev pub invariant-loop-rest : goal.invariant-loop-rest
invariant-loop-rest l = record {
  line : l.place.line + length l.rest ≤ length l.fn.text + 1;
  column : l.place.column + length l.rest ≤ length l.fn.text + 1;
  goes_on : run (state_of l.lists) l.place l.rest ≡ node_at l.fn.text;
}

abbrev pub decreases-loop-rest : goal.decreases-loop-rest
decreases-loop-rest l = length l.rest
