use Rattle.std.proofs.Common.{◌≡◌, ◌≤◌, All, take, vec_len}
use Rattle.mp_estimates.specs.Estimates.{Values}
use Rattle.mp_estimates.specs.Lowering.{AreBelow, HaveFallen, number_at}
use Rattle.mp_relaxed.specs.Search.{AreLow, HaveStayed}
use Rattle.mp_relaxed.proofs.search.relax.Given as goal

abbrev pub invariant-loop-x : goal.invariant-loop-x
invariant-loop-x l = record {
  len : vec_len l.numbers ≡ vec_len l.initial.numbers;
  fallen : HaveFallen l.initial.numbers.items l.initial.queue l.numbers.items l.queue;
  stayed : HaveStayed l.most l.initial.numbers.items l.initial.queue l.numbers.items l.queue;
  done : All (λ y. number_at l.numbers.items y ≤ l.cost) (take l.x-index l.x-items);
  below : (values : Values) → AreLow l.problem.operators values → AreBelow values l.initial.numbers.items → AreBelow values l.numbers.items;
}
