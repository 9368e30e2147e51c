use Rattle.std.proofs.Common.{◌≡◌, ◌*◌, ◌≤◌, ◌<◌, ℕ, false}
use Rattle.mp_sets.specs.Words.{has_bit}
use Rattle.mp_sets.proofs.words.first_from.Given as goal

abbrev pub invariant-loop-at : goal.invariant-loop-at
invariant-loop-at l = (y : ℕ) → l.from ≤ y → y < 64 * l.at → has_bit l.words y ≡ false
