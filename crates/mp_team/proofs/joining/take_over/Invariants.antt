use Rattle.std.proofs.Common.{◌≡◌, ◌≤◌, ℕ, None, length, get_or}
use Rattle.mp_team.proofs.Changing.{either_first}
use Rattle.mp_team.proofs.joining.take_over.Given as goal

abbrev pub invariant-loop-at : goal.invariant-loop-at
invariant-loop-at g l = record {
  nodes : l.nodes ≡ either_first l.at l.fn.nodes l.fn.others;
  many : length l.others ≡ length l.fn.nodes;
  left : (k : ℕ) → l.at ≤ k → get_or l.others k None ≡ get_or l.fn.others k None;
}
