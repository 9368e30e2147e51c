use Rattle.std.proofs.Common.{◌≡◌, ℕ, ◌+◌, ◌-◌, ◌<◌, ◌≤◌, Some, IsTrue, vec_len}
use Rattle.std.specs.FinSet as set
use Rattle.mp_estimates.specs.Estimates.{AtMost, Values}
use Rattle.mp_estimates.specs.Lowering.{AreBelow, HaveFallen, number_at}
use Rattle.mp_relaxed.proofs.search.mark.Given as goal

abbrev pub invariant-members : goal.invariant-members
invariant-members l = record {
  len : vec_len l.numbers ≡ vec_len l.initial.numbers;
  fallen : HaveFallen l.initial.numbers.items l.initial.queue l.numbers.items l.queue;
  zero : (x : ℕ) → x < l.from → IsTrue (set.contains l.members.members x) → number_at l.numbers.items (l.offset + x) ≤ 0;
  below : (values : Values) → ((x : ℕ) → x < l.members.size → IsTrue (set.contains l.members.members x) → AtMost (values (l.offset + x)) (Some 0)) → AreBelow values l.initial.numbers.items → AreBelow values l.numbers.items;
}

abbrev pub decreases-members : goal.decreases-members
decreases-members l = l.members.size - l.from
