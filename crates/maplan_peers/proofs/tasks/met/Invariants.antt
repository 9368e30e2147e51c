use Rattle.std.proofs.Common.{◌≡◌, length}
use Rattle.maplan_peers.proofs.tasks.met.Given as goal

abbrev pub invariant-loop-flag : goal.invariant-loop-flag
invariant-loop-flag l = length l.met ≡ l.flag-index
