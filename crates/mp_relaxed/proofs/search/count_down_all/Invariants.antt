use Rattle.std.proofs.Common.{◌≡◌, take, vec_len}
use Rattle.mp_estimates.specs.Estimates.{Values}
use Rattle.mp_estimates.specs.Lowering.{AreBelow, HaveFallen}
use Rattle.mp_relaxed.specs.Search.{AreLow, AreLowered, HaveStayed}
use Rattle.mp_relaxed.proofs.CountLemmas.{ServedSoFar}
use Rattle.mp_relaxed.proofs.search.count_down_all.Given as goal

abbrev pub invariant-loop-k : goal.invariant-loop-k
invariant-loop-k l = record {
  len : vec_len l.numbers ≡ vec_len l.initial.numbers;
  counted : vec_len l.counters ≡ vec_len l.initial.counters;
  fallen : HaveFallen l.initial.numbers.items l.initial.queue l.numbers.items l.queue;
  stayed : HaveStayed l.cost l.initial.numbers.items l.initial.queue l.numbers.items l.queue;
  lowered : AreLowered l.initial.counters.items (take l.k-index l.operators) l.counters.items;
  served : ServedSoFar l.problem.operators (take l.k-index l.operators) l.numbers.items l.queue l.counters.items;
  below : (values : Values) → AreLow l.problem.operators values → AreBelow values l.initial.numbers.items → AreBelow values l.numbers.items;
}
