use Rattle.std.proofs.Common.{◌≡◌, ℕ, ◌<◌, ◌≤◌, All, vec_len}
use Rattle.mp_pdb.specs.declared.moves.Move.{Move}
use Rattle.mp_estimates.specs.Lowering.{AreBelow, Key, number_at, weight}
use Rattle.mp_estimates.specs.Estimates.{Values}
use Rattle.mp_pdb.specs.Table.{AreLow, IsServed}
use Rattle.mp_pdb.proofs.table.settle.Given as goal

abbrev pub invariant-pops : goal.invariant-pops
invariant-pops l = record {
  len : vec_len l.numbers ≡ vec_len l.initial.numbers;
  inside : All (λ (k : Key). k.1 < vec_len l.numbers) l.queue;
  lower : (x : ℕ) → number_at l.numbers.items x ≤ number_at l.initial.numbers.items x;
  served : (mask : ℕ) → mask < vec_len l.initial.numbers → All (λ (m : Move). IsServed l.numbers.items l.queue m mask) l.moves;
  below : (values : Values) → AreLow (vec_len l.initial.numbers) l.moves values → AreBelow values l.initial.numbers.items → AreBelow values l.numbers.items;
}

abbrev pub decreases-pops : goal.decreases-pops
decreases-pops l = weight l.numbers.items l.queue
