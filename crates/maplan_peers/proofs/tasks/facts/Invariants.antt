use Rattle.std.proofs.Common.{◌≡◌}
use Rattle.maplan_peers.proofs.tasks.facts.Given as goal

abbrev pub invariant-loop-number : goal.invariant-loop-number
invariant-loop-number l = l.set.size ≡ l.size
