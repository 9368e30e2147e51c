use denote.Param.Send.{sendable}
use Rattle.mp_post.proofs.Sends.{desk_sends}
use Rattle.mp_post.proofs.crossing.desks_cross_threads.Goals as goal

pub sends-requires-send-T : goal.sends-requires-send-T
sends-requires-send-T c κs = search (sendable, desk_sends)
