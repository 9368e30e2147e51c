use Rattle.mp_split.proofs.Basics.{◌≡◌, ℕ, ◌<◌, slice_index_or}
use Rattle.mp_split.proofs.task.are_places.Given as goal

abbrev pub invariant-loop-number : goal.invariant-loop-number
invariant-loop-number l = record {
  place : l.place ≡ l.number-index;
  so : (n : ℕ) → n < l.number-index → slice_index_or l.numbers n 0 ≡ n;
}
