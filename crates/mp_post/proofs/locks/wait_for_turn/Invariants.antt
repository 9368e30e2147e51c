use Rattle.std.proofs.Common.{◌≡◌}
use Rattle.mp_post.proofs.locks.wait_for_turn.Given as goal

abbrev pub invariant-loop : goal.invariant-loop
invariant-loop g l = record {
  same : l.seat.table_id ≡ l.fn.seat.table_id;
  me : l.seat.me ≡ l.fn.seat.me;
}
