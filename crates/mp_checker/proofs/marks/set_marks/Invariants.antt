use Rattle.std.proofs.Common.{◌≡◌, ℕ, eqb, drop, if◌then◌else◌}
use Rattle.std.specs.List.{list_any}
use Rattle.mp_checker.specs.Marked.{is_marked}
use Rattle.mp_checker.proofs.marks.set_marks.Given as goal

abbrev pub invariant-loop-number : goal.invariant-loop-number
invariant-loop-number l =
    (k : ℕ) → (if list_any (λ n. eqb n k) (drop l.number-index l.numbers) then l.mark else is_marked l.marks.items k)
    ≡ (if list_any (λ n. eqb n k) l.numbers then l.mark else is_marked l.fn.marks.items k)
