use Rattle.std.proofs.Common.{◌≡◌, ◌≤◌, ◌+◌, ◌-◌, ℕ, vec_len}
use Rattle.mp_relaxed.specs.Places.{AreEmptyWithin, placed}
use Rattle.mp_relaxed.proofs.places.make_row.Given as goal

abbrev pub invariant-each : goal.invariant-each
invariant-each l = record {
  few : vec_len l.rows ≤ 1024;
  kept : vec_len l.initial.rows ≤ vec_len l.rows;
  same : placed 0 l.rows.items ≡ placed 0 l.initial.rows.items;
  empty : (from to : ℕ) → AreEmptyWithin from to l.initial.rows.items → AreEmptyWithin from to l.rows.items;
}

abbrev pub decreases-each : goal.decreases-each
decreases-each l = l.number + 1 - vec_len l.rows
