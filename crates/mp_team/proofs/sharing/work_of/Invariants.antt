use Rattle.std.proofs.Common.{◌≡◌, [], ◌∷◌, length}
use Rattle.mp_team.specs.Works.{AreShared, parts_of}
use Rattle.mp_team.proofs.sharing.work_of.Given as goal

abbrev pub invariant-loop-at : goal.invariant-loop-at
invariant-loop-at g l = record {
  many : length l.from.nodes ≡ l.count;
  shared : AreShared g.H.Heuristic.value l.posts.shared.table_id l.posts.shared.key (l.fn.from.nodes ∷ []) (l.from ∷ parts_of l.work);
}
