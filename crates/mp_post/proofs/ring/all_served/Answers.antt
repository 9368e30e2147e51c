use denote.Param.Send.{IsSend, sendable}
use denote.Param.SendFields.{declared_send}
use Rattle.mp_post.specs.contracts.ring.Finished.{the_row as finished, the_type as finished_type}
use Rattle.mp_post.specs.contracts.ring.Seated.{the_row as seated, the_type as seated_type}
use Rattle.mp_post.proofs.Sends.{agent_sends, desk_sends}
use Rattle.mp_post.proofs.ring.all_served.Goals as goal

seated_sends : IsSend seated
seated_sends = declared_send seated_type (agent_sends, (desk_sends, tt))

finished_sends : IsSend finished
finished_sends = declared_send finished_type (desk_sends, (search sendable, tt))

pub map_vec-requires-send-J : goal.map_vec-requires-send-J
map_vec-requires-send-J g c κs within = search (sendable, seated_sends)

pub map_vec-requires-send-X : goal.map_vec-requires-send-X
map_vec-requires-send-X g c κs within = search (sendable, finished_sends)
