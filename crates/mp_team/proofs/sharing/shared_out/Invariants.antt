use Rattle.std.proofs.Common.{[], ◌∷◌}
use Rattle.mp_team.specs.Works.{AreShared}
use Rattle.mp_team.proofs.sharing.shared_out.Given as goal

abbrev pub invariant-loop-worker : goal.invariant-loop-worker
invariant-loop-worker g l =
    AreShared g.H.Heuristic.value l.posts.shared.table_id l.posts.shared.key (l.fn.from.nodes ∷ []) (l.from ∷ l.others.items)
