use Rattle.std.proofs.Common.{◌≡◌, ◌*◌, ◌<◌, ◌≤◌, ◌-◌, ℕ, length}
use Rattle.mp_sets.specs.Words.{has_bit}
use Rattle.mp_sets.proofs.words.are_equal.Given as goal

abbrev pub invariant-loop-at : goal.invariant-loop-at
invariant-loop-at l = (x : ℕ) → x < 64 * l.at → has_bit l.words x ≡ has_bit l.others x

abbrev pub invariant-loop-done : goal.invariant-loop-done
invariant-loop-done l = (l.done ≤ length l.words) × ((x : ℕ) → x < 64 * l.done → has_bit l.words x ≡ has_bit l.others x)

abbrev pub decreases-loop-done : goal.decreases-loop-done
decreases-loop-done l = length l.words - l.done
