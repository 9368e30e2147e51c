use Rattle.std.proofs.Common.{Ok, true}
use Rattle.mp_nodes.specs.Served.{IsRound}
use Rattle.mp_nodes.proofs.serving.serve.Given as goal

abbrev pub invariant-loop : goal.invariant-loop
invariant-loop g l = IsRound g.H.Heuristic.value l.posts.shared.table_id l.posts.shared.key l.fn.nodes (Ok true) l.nodes l.desk
