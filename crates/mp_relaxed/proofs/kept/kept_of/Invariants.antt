use Rattle.std.proofs.Common.{◌<◌, vec_len}
use Rattle.mp_relaxed.specs.Dominated.{AreKept}
use Rattle.mp_relaxed.proofs.kept.kept_of.Given as goal

abbrev pub invariant-loop-k : goal.invariant-loop-k
invariant-loop-k l = record {
  some : 0 < vec_len l.places;
  kept : AreKept l.problem.operators l.k l.kept.items;
}
