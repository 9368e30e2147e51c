use Rattle.std.proofs.Common.{◌≡◌, ℕ, ◌<◌, ◌≤◌, IsTrue, vec_len}
use Rattle.std.specs.Prelude.{bit_and, bit_or}
use Rattle.mp_estimates.specs.Estimates.{AtMost, Values}
use Rattle.mp_pdb.specs.Moves.{after_move, has_all}
use Rattle.mp_estimates.specs.Lowering.{AreBelow, HaveFallen, known, number_at}
use Rattle.mp_pdb.proofs.table.relax.Given as goal

abbrev pub invariant-parts : goal.invariant-parts
invariant-parts l = record {
  len : vec_len l.numbers ≡ vec_len l.initial.numbers;
  fallen : HaveFallen l.initial.numbers.items l.initial.queue l.numbers.items l.queue;
  is_part : bit_and l.part l.free ≡ l.part;
  done : (p : ℕ) → bit_and p l.free ≡ p → l.part < p → number_at l.numbers.items (bit_or l.fixed p) ≤ l.cost;
  below : (values : Values) → ((mask : ℕ) → mask < vec_len l.initial.numbers → IsTrue (has_all mask l.found.pre) → after_move l.found mask ≡ l.to → AtMost (values mask) (known l.cost)) → AreBelow values l.initial.numbers.items → AreBelow values l.numbers.items;
}

abbrev pub decreases-parts : goal.decreases-parts
decreases-parts l = l.part
