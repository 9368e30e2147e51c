use Rattle.std.proofs.Common.{◌≡◌, true, drop}
use Rattle.std.specs.Prelude.{fold, slice_set}
use Rattle.std.specs.Prelude.{List, Bool, ℕ}
use Rattle.mp_checker.specs.Numbering.{flags_at}
use Rattle.mp_checker.proofs.members.ObjectFlags.new.Given as goal

abbrev pub invariant-loop-number : goal.invariant-loop-number
invariant-loop-number l =
    fold (λ (flags : List Bool) (number : ℕ). slice_set flags number true) l.flags.items (drop l.number-index l.numbers) ≡ flags_at l.count l.numbers
