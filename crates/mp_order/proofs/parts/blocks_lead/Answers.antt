use Rattle.mp_order.proofs.BlocksAndGroups.{block_steps}
use Rattle.mp_order.proofs.Solving.{block_leads}
use Rattle.mp_order.proofs.parts.blocks_lead.Goals as goal

pub returns : goal.returns
returns c = record { steps = block_steps; reached = block_leads }
