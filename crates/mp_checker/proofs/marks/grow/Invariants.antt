use Rattle.std.proofs.Common.{◌≡◌, ℕ, length}
use Rattle.mp_checker.specs.Marked.{is_marked}
use Rattle.mp_checker.proofs.marks.grow.Given as goal

abbrev pub invariant-loop : goal.invariant-loop
invariant-loop l =
    (length l.marks.items ≡ l.counter)
    × ((k : ℕ) → is_marked l.marks.items k ≡ is_marked l.fn.marks.items k)
