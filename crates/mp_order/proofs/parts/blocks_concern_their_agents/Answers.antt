use Rattle.mp_order.proofs.BlocksAndGroups.{known_to_others}
use Rattle.mp_order.proofs.parts.blocks_concern_their_agents.Goals as goal

pub returns : goal.returns
returns c = known_to_others
