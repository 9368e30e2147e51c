use Rattle.std.proofs.Common.{◌≤◌, ◌-◌}
use Rattle.mp_relaxed.specs.Places.{AreEmptyWithin}
use Rattle.mp_relaxed.proofs.places.next_row.Given as goal

abbrev pub invariant-each : goal.invariant-each
invariant-each l = record {
  from : l.from ≤ l.at;
  within : l.at ≤ l.end;
  passed : AreEmptyWithin l.from l.at l.rows;
}

abbrev pub decreases-each : goal.decreases-each
decreases-each l = l.end - l.at
