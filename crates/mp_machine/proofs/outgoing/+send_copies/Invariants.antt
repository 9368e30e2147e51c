use Rattle.std.proofs.Common.{length}
use Rattle.mp_machine.proofs.outgoing.+send_copies.Given as goal

abbrev pub decreases-send_copies : goal.decreases-send_copies
decreases-send_copies l = length l.agents.now
