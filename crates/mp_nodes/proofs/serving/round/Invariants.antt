use Rattle.std.proofs.Common.{Ok}
use Rattle.mp_nodes.specs.Served.{IsRound}
use Rattle.mp_nodes.proofs.serving.round.Given as goal

abbrev pub invariant-loop-at : goal.invariant-loop-at
invariant-loop-at g l = IsRound g.H.Heuristic.value l.posts.shared.table_id l.posts.shared.key l.fn.nodes (Ok l.did) l.nodes l.desk
