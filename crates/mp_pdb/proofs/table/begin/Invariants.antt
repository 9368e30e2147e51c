use Rattle.std.proofs.Common.{◌≡◌, ℕ, ◌<◌, ◌≤◌, Some, IsTrue, vec_len}
use Rattle.mp_estimates.specs.Estimates.{AtMost, Values}
use Rattle.mp_pdb.specs.Moves.{has_all}
use Rattle.mp_estimates.specs.Lowering.{AreBelow, HaveFallen, number_at}
use Rattle.mp_pdb.proofs.table.begin.Given as goal

abbrev pub invariant-loop-mask : goal.invariant-loop-mask
invariant-loop-mask l = record {
  len : vec_len l.numbers ≡ vec_len l.initial.numbers;
  end : l.mask-end ≡ vec_len l.initial.numbers;
  fallen : HaveFallen l.initial.numbers.items l.initial.queue l.numbers.items l.queue;
  goals : (mask : ℕ) → mask < l.mask → IsTrue (has_all mask l.goal) → number_at l.numbers.items mask ≤ 0;
  below : (values : Values) → ((mask : ℕ) → mask < vec_len l.initial.numbers → IsTrue (has_all mask l.goal) → AtMost (values mask) (Some 0)) → AreBelow values l.initial.numbers.items → AreBelow values l.numbers.items;
}
