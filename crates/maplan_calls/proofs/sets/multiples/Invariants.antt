use Rattle.std.proofs.Common.{All, ◌<◌}
use Rattle.maplan_calls.proofs.sets.multiples.Given as goal

abbrev pub invariant-loop-x : goal.invariant-loop-x
invariant-loop-x l = All (λ y. y < l.x) l.list
