-- Works may go to other threads where the heuristic of their machines may: all that the seat of a desk holds of the table may.
use denote.RattleType.{RattleType}
use denote.Struct.Declared.{shape}
use denote.Struct.Field.{u16-field}
use denote.Param.Send.{AllSend, IsSend, IsSync, owning_send, recorded_send, sendable, struct_send}
use Rattle.std.specs.contracts.snapshot.Snapshot as Snapshot
use Rattle.std.proofs.Crossing as heap
use Rattle.std.proofs.alloc.Global.TheSendSync.{the_sync as global_sync}
use Rattle.std.specs.contracts.alloc.Global as Global
use Rattle.std.specs.contracts.impls.GlobalAllocator as GlobalAllocator
use Rattle.atomic_table.proofs.owned.Table.TheSendSync.{the_sync as table}
use Rattle.atomic_table.specs.contracts.owned.Table as Table
use Rattle.mp_post_rule.specs.contracts.rule.Rule as Rule
use Rattle.mp_post_rule.specs.contracts.rule.RuleTableRuleCachePaddedSlotViewU16 as RuleTableRuleCachePaddedSlotViewU16
use Rattle.mp_post_rule.specs.contracts.view.View as View
use Rattle.std.proofs.alloc.Global.TheSendSync.{the_send as global}
use Rattle.std.proofs.vec.Vec.TheSendSync.{the_send as vec}
use Rattle.atomic_table.proofs.shared.Seat.TheSendSync.{the_send as seat}
use Rattle.crossbeam_utils.proofs.cache_padded.CachePadded.TheSendSync.{the_send as padded}
use Rattle.crossbeam_utils.specs.contracts.cache_padded.CachePadded as Padded
use Rattle.mp_sets.proofs.agent.Agent.TheSendSync.{the_send as agent}
use Rattle.mp_task.specs.declared.heuristic.Heuristic.{Ghosts}
use Rattle.mp_stamps.proofs.stamped.StampedLists.TheSendSync.{the_send as lists}
use Rattle.mp_post_rule.proofs.kept.Kept.TheSendSync.{the_send as kept}
use Rattle.mp_post_rule.specs.contracts.kept.Slot as Slot
use Rattle.mp_nodes.proofs.nodes.Nodes.TheSendSync.{the_send as nodes}
use Rattle.mp_nodes.proofs.served.Served.TheSendSync.{the_field_send as served}
use Rattle.mp_post.specs.contracts.desk.Desk as Desk
use Rattle.mp_post.specs.contracts.desk.Desk.TheInside as Inside
use Rattle.mp_team.specs.contracts.work.Answered as Answered
use Rattle.mp_team.specs.contracts.work.Work as Work

-- a snapshot owns nothing
snapshot : (T : RattleType) → IsSend (Snapshot.the_row T)
snapshot T = owning_send (Snapshot.the_type T) (search sendable, tt) (λ d. tt) (λ k x w. tt)

pub slot : IsSend Slot.the_row
slot =
    let S = shape Slot.the_type in
    let all : AllSend S.fields = (search (kept, sendable), (search (agent, sendable), (search (snapshot, sendable), tt))) in
    recorded_send _ _ (Slot.the_type).to (Slot.the_type).to_one (struct_send S all)

pub padded_slot : IsSend (Padded.the_row Slot.the_row)
padded_slot = padded Slot.the_row slot

inside : IsSend Inside.the_row
inside =
    let S = shape Inside.the_type in
    let all : AllSend S.fields = (search (padded_slot, seat, sendable), (search (lists, sendable), (search (global, heap.frees, sendable, vec), (search sendable, tt)))) in
    recorded_send _ _ (Inside.the_type).to (Inside.the_type).to_one (struct_send S all)

pub desk_crosses : IsSend Desk.the_row
desk_crosses = search (inside, sendable)

-- posts may be shared by threads
abbrev pub Posts : RattleType
Posts = Table.the_row (Padded.the_row Slot.the_row) View.the_row u16-field.row Rule.the_row Global.the_row
    RuleTableRuleCachePaddedSlotViewU16.TheImpl.ghosts GlobalAllocator.TheImpl.ghosts

pub posts_shared : IsSync Posts
posts_shared = table (Padded.the_row Slot.the_row) View.the_row u16-field.row Rule.the_row Global.the_row
    RuleTableRuleCachePaddedSlotViewU16.TheImpl.ghosts GlobalAllocator.TheImpl.ghosts padded_slot global global_sync heap.frees

module _ (H : RattleType) (g : Ghosts H.Denot) (crosses : IsSend H) where
  parts_of_work : AllSend (shape (Work.the_type H g)).fields
  parts_of_work = let nodes_cross = nodes H g crosses in (search (nodes_cross, sendable), (search (desk_crosses, sendable), tt))

  -- a work by itself, and as a field
  pub work_crosses : IsSend (Work.the_row H g)
  work_crosses = recorded_send _ _ (Work.the_type H g).to (Work.the_type H g).to_one (struct_send (shape (Work.the_type H g)) parts_of_work)

  pub work_field_crosses : IsSend (Work.the_field H g).row
  work_field_crosses = struct_send (shape (Work.the_type H g)) parts_of_work

  parts_of_answered : AllSend (shape (Answered.the_type H g)).fields
  parts_of_answered = (work_field_crosses, (served, tt))

  -- and what was answered of it
  pub answered_crosses : IsSend (Answered.the_row H g)
  answered_crosses =
      recorded_send _ _ (Answered.the_type H g).to (Answered.the_type H g).to_one
      (struct_send (shape (Answered.the_type H g)) parts_of_answered)

  pub answered_field_crosses : IsSend (Answered.the_field H g).row
  answered_field_crosses = struct_send (shape (Answered.the_type H g)) parts_of_answered
