use Rattle.std.proofs.Common.{◌≡◌, replicate, None}
use Rattle.mp_nodes.proofs.nodes.Nodes.new.Given as goal

abbrev pub invariant-loop : goal.invariant-loop
invariant-loop g l = l.places.items ≡ replicate l.counter None
