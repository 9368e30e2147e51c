use denote.Exit as exit
use denote.Param.{param}
use denote.Param.Send.{AllSend, IsSend, arg_send, param_send, recorded_send, sendable, struct_send}
use denote.Struct.Field.{shr_ref_field}
use denote.Struct.Declared.{shape}
use denote.Struct.Tuple.{type_at}
use mir.Syntax.{named, ty_unit}
use Rattle.std.proofs.Common.{[], ◌∷◌}
use Rattle.std.proofs.result.Result.TheSendSync.{the_send as result}
use Rattle.std.proofs.sync.atomic.AtomicBool.TheSendSync.{the_sync as flag}
use Rattle.std.specs.contracts.sync.atomic.AtomicBool as AtomicBool
use Rattle.mp_team.specs.contracts.work.Work as Work
use Rattle.mp_team.proofs.Crossing.{Posts, answered_crosses, posts_shared, work_crosses}
use Rattle.mp_team.proofs.worker.started.Goals as goal

-- the closure takes references to what may be shared, and the work
pub spawn_with-requires-send-F : goal.spawn_with-requires-send-F
spawn_with-requires-send-F g c κs within =
    let handle = (shr_ref_field (record { mir = named 6; lft = κs.1.1.1.1.1.1.0 }) (param 1 g.row.R) tt).row in
    let posts = (shr_ref_field (record { mir = named 7; lft = κs.1.1.1.1.1.1.1.0 }) Posts tt).row in
    let work = Work.the_row (param 2 g.row.H) g.H.Heuristic in
    let gate = (shr_ref_field (record { mir = named 8; lft = κs.1.1.1.1.1.1.1.1.0 }) (param 3 g.row.G) tt).row in
    let unstarted = (shr_ref_field (record { mir = named 9; lft = κs.1.1.1.1.1.1.1.1.1.0 }) AtomicBool.the_row tt).row in
    let handle_crosses : IsSend handle = search (c.type_bounds.sync-R, sendable) in
    let posts_cross : IsSend posts = search (posts_shared, sendable) in
    let work_goes : IsSend work = work_crosses (param 2 g.row.H) g.H.Heuristic c.type_bounds.send-H in
    let gate_crosses : IsSend gate = search (c.type_bounds.sync-G, sendable) in
    let flag_crosses : IsSend unstarted = search (flag, sendable) in
    let rows = handle ∷ posts ∷ work ∷ gate ∷ unstarted ∷ [] in
    let T = type_at [] rows in
    let each : AllSend rows = (handle_crosses, (posts_cross, (work_goes, (gate_crosses, (flag_crosses, tt))))) in
    let all = recorded_send _ _ T.to T.to_one (struct_send (shape T) each) in
    let s = param_send 2 _ (arg_send ty_unit exit.no _ all) in
    record { owned = s.owned; leaving = s.leaving }

pub spawn_with-requires-send-T : goal.spawn_with-requires-send-T
spawn_with-requires-send-T g c κs within =
    let heuristic = c.type_bounds.send-H in
    let s = param_send 3 _ (result _ _ (answered_crosses _ g.H.Heuristic heuristic) (work_crosses _ g.H.Heuristic heuristic)) in
    record { owned = s.owned; leaving = s.leaving }
