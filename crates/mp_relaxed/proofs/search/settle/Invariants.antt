use Rattle.std.proofs.Common.{◌≡◌, ℕ, ◌<◌, ◌≤◌, All, vec_len}
use Rattle.mp_estimates.specs.Estimates.{Values}
use Rattle.mp_estimates.specs.Lowering.{AreBelow, IsProper, Key, number_at, weight}
use Rattle.mp_relaxed.specs.Search.{AreLow, CountOpen, CountUnsettled, ServeAtZero}
use Rattle.mp_relaxed.proofs.search.settle.Given as goal

abbrev pub invariant-pops : goal.invariant-pops
invariant-pops l = record {
  counted : vec_len l.counters ≡ vec_len l.initial.counters;
  len : vec_len l.numbers ≡ vec_len l.initial.numbers;
  inside : All (λ (k : Key). k.1 < vec_len l.numbers) l.queue;
  lower : (x : ℕ) → number_at l.numbers.items x ≤ number_at l.initial.numbers.items x;
  served : ServeAtZero l.problem.operators l.numbers.items l.queue l.counters.items;
  counts : CountOpen l.problem.operators l.numbers.items l.queue l.counters.items;
  proper : IsProper l.numbers.items l.queue;
  unsettled : CountUnsettled l.problem.operators l.numbers.items l.queue l.counters.items;
  below : (values : Values) → AreLow l.problem.operators values → AreBelow values l.initial.numbers.items → AreBelow values l.numbers.items;
}

abbrev pub decreases-pops : goal.decreases-pops
decreases-pops l = weight l.numbers.items l.queue
