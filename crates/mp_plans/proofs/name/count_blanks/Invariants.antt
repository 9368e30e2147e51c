use Rattle.std.proofs.Common.{◌≡◌, ◌+◌, ◌≤◌, drop}
use Rattle.std.specs.List.{count_by}
use Rattle.mp_plans.specs.Names.{is_blank}
use Rattle.mp_plans.proofs.name.count_blanks.Given as goal

abbrev pub invariant-loop-byte : goal.invariant-loop-byte
invariant-loop-byte l =
    (l.count ≤ l.byte-index)
    × (l.count + count_by is_blank (drop l.byte-index l.text) ≡ count_by is_blank l.text)
