-- A desk may go to another thread.
use denote.Builtin.{bool}
use denote.Hole.{as_row}
use denote.Param.Send.{IsSend, sendable, view_send}
use denote.Param.SendFields.{as_row_send, declared_send}
use Rattle.std.proofs.Crossing.{frees}
use Rattle.std.proofs.alloc.Global.TheSendSync as heap_crosses
use Rattle.std.proofs.option.Option.TheSendSync as option_crosses
use Rattle.std.proofs.vec.Vec.TheSendSync as vec_crosses
use Rattle.std.specs.contracts.alloc.Global.{the_row as heap}
use Rattle.std.specs.contracts.impls.GlobalAllocator.TheImpl.{ghosts}
use Rattle.std.specs.contracts.option.Option.{the_field as option_field}
use Rattle.std.specs.contracts.snapshot.Snapshot.{the_row as snapshot}
use Rattle.std.specs.contracts.vec.Vec.{the_field as vec_field}
use Rattle.atomic_table.proofs.shared.Seat.TheSendSync as seat_crosses
use Rattle.atomic_table.specs.contracts.shared.Seat.{the_field as seat_field}
use Rattle.crossbeam_utils.proofs.cache_padded.CachePadded.TheSendSync as padded_crosses
use Rattle.crossbeam_utils.specs.contracts.cache_padded.CachePadded.{the_row as padded}
use Rattle.mp_list.specs.contracts.list.List.{the_row as list}
use Rattle.mp_messages.specs.contracts.history.Entry.{the_row as entry}
use Rattle.mp_sets.proofs.agent.Agent.TheSendSync as agent_crosses
use Rattle.mp_sets.specs.contracts.agent.Agent.{the_field as agent_field}
use Rattle.mp_stamps.proofs.stamped.StampedLists.TheSendSync as lists_cross
use Rattle.mp_stamps.specs.contracts.stamped.StampedLists.{the_field as lists_field}
use Rattle.mp_post_rule.proofs.kept.Kept.TheSendSync as kept_crosses
use Rattle.mp_post_rule.specs.contracts.kept.Kept.{the_row as kept}
use Rattle.mp_post_rule.specs.contracts.kept.Slot.{the_row as slot, the_type as slot_type}
use Rattle.mp_post_rule.specs.contracts.view.View.{the_row as view}
use Rattle.mp_post.specs.contracts.desk.Desk.{the_row as desk}
use Rattle.mp_post.specs.contracts.desk.Desk.TheInside.{the_type as inside_type}

kept_sends : IsSend (as_row (option_field kept))
kept_sends = option_crosses.the_send kept kept_crosses.the_send

pub agent_sends : IsSend (as_row agent_field)
agent_sends = as_row_send agent_field agent_crosses.the_send

batch_shown : IsSend (snapshot (list entry))
batch_shown = record { owned = λ x vs. ((λ vss. (tt, ((λ uss. (tt, tt)), tt))), tt); leaving = λ k x w. tt }

batch_sends : IsSend (as_row (option_field (snapshot (list entry))))
batch_sends = option_crosses.the_send (snapshot (list entry)) batch_shown

slot_sends : IsSend slot
slot_sends = declared_send slot_type (kept_sends, (agent_sends, (batch_sends, tt)))

seat_sends : IsSend (as_row (seat_field (padded slot) view))
seat_sends = as_row_send (seat_field (padded slot) view) (seat_crosses.the_send (padded slot) view (padded_crosses.the_send slot slot_sends))

lists_send : IsSend (as_row lists_field)
lists_send = as_row_send lists_field lists_cross.the_send

marks_send : IsSend (as_row (vec_field bool heap ghosts))
marks_send = as_row_send (vec_field bool heap ghosts) (vec_crosses.the_send bool heap ghosts (search sendable) heap_crosses.the_send frees)

pub desk_sends : IsSend desk
desk_sends = view_send _ _ _ _ _ (declared_send inside_type (seat_sends, (lists_send, (marks_send, (search sendable, tt)))))
