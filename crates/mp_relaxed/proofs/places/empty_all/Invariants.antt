use Rattle.std.proofs.Common.{◌≡◌, ◌≤◌, ◌-◌, vec_len}
use Rattle.mp_relaxed.specs.Places.{AreEmptyWithin}
use Rattle.mp_relaxed.proofs.places.empty_all.Given as goal

abbrev pub invariant-each : goal.invariant-each
invariant-each l = record {
  len : vec_len l.rows ≡ vec_len l.initial.rows;
  within : l.at ≤ l.end;
  done : AreEmptyWithin 0 l.at l.rows.items;
  above : AreEmptyWithin l.end (vec_len l.initial.rows) l.rows.items;
}

abbrev pub decreases-each : goal.decreases-each
decreases-each l = l.end - l.at
