use Rattle.std.proofs.Common.{◌≡◌, ℕ, ◌<◌, get_or, vec_len}
use Rattle.mp_estimates.specs.Estimates.{Values}
use Rattle.mp_estimates.specs.Lowering.{AreBelow, HaveFallen}
use Rattle.mp_relaxed.specs.Search.{AreLow, IsServed}
use Rattle.mp_relaxed.proofs.search.relax_users.Given as goal

abbrev pub invariant-loop-k : goal.invariant-loop-k
invariant-loop-k l = record {
  len : vec_len l.numbers ≡ vec_len l.initial.numbers;
  fallen : HaveFallen l.initial.numbers.items l.initial.queue l.numbers.items l.queue;
  served : (j : ℕ) → j < l.k-index → IsServed l.problem.operators l.numbers.items l.queue (get_or l.users j 0);
  below : (values : Values) → AreLow l.problem.operators values → AreBelow values l.initial.numbers.items → AreBelow values l.numbers.items;
}
