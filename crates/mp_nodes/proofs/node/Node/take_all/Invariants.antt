use Rattle.std.proofs.Common.{Bool, Ok}
use Rattle.mp_nodes.specs.Steps.{GoesOn}
use Rattle.mp_nodes.proofs.node.Node.take_all.Given as goal

abbrev pub invariant-loop : goal.invariant-loop
invariant-loop g l = GoesOn g.H.Heuristic.value l.posts.shared.table_id l.posts.shared.key {A = Bool} l.fn.self l.fn.desk (Ok l.took) l.self l.desk
