use Rattle.std.proofs.Common.{◌≡◌}
use Rattle.mp_post_rule.specs.Table.{IsFree}
use Rattle.mp_post.specs.Desks.{HoldsParty}
use Rattle.mp_post.specs.Halts.{HasHalted}
use Rattle.mp_post.proofs.halting.halt_all.Given as goal

abbrev pub invariant-loop-place : goal.invariant-loop-place
invariant-loop-place g l = record {
  same : l.seat.table_id ≡ l.fn.seat.table_id;
  free : IsFree l.seat.me;
  held : HoldsParty l.by l.seat.me.0;
  halted : HasHalted l.by l.place l.fn.seat.me.0 l.seat.me.0;
}
