use Rattle.std.proofs.Common.{◌≡◌}
use Rattle.maplan_calls.proofs.states.set_of.Given as goal

abbrev pub invariant-loop-word : goal.invariant-loop-word
invariant-loop-word l = l.set.size ≡ l.size
