use Rattle.std.proofs.Common.{◌≡◌, ℕ, ◌<◌, ◌≤◌, length, All, vec_len}
use Rattle.mp_estimates.specs.Estimates.{Values}
use Rattle.mp_estimates.specs.Lowering.{AreBelow, Key, number_at, weight}
use Rattle.mp_relaxed.specs.Search.{AreLow, IsServed}
use Rattle.mp_relaxed.proofs.search.settle_again.Given as goal

abbrev pub invariant-pops : goal.invariant-pops
invariant-pops l = record {
  len : vec_len l.numbers ≡ vec_len l.initial.numbers;
  inside : All (λ (k : Key). k.1 < vec_len l.numbers) l.queue;
  lower : (x : ℕ) → number_at l.numbers.items x ≤ number_at l.initial.numbers.items x;
  served :
      ((k : ℕ) → k < length l.problem.operators → IsServed l.problem.operators l.initial.numbers.items l.initial.queue k)
      → (k : ℕ)
      → k < length l.problem.operators
      → IsServed l.problem.operators l.numbers.items l.queue k;
  below : (values : Values) → AreLow l.problem.operators values → AreBelow values l.initial.numbers.items → AreBelow values l.numbers.items;
}

abbrev pub decreases-pops : goal.decreases-pops
decreases-pops l = weight l.numbers.items l.queue
