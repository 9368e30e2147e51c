use Rattle.std.proofs.Common.{arith}
use Rattle.mp_messages.proofs.Messages.{reads_spelled, reads_found, reads_refused, reads_memory}
use Rattle.mp_messages.proofs.decoding.decode.Goals as goal

pub returns-clause-spelled : goal.returns-clause-spelled
returns-clause-spelled c =
    reads_spelled c.args.agents c.args.publics c.args.bytes.now c.checked_message.result (λ i. omega (arith, c.type_inv.bytes i)) c.checked_message.ensures

pub returns-clause-found : goal.returns-clause-found
returns-clause-found c =
    reads_found c.args.agents c.args.publics c.args.bytes.now c.checked_message.result (omega (arith, c.ranges.publics.fits)) c.checked_message.ensures

pub returns-clause-refused : goal.returns-clause-refused
returns-clause-refused c =
    reads_refused c.args.agents c.args.publics c.args.bytes.now c.checked_message.result (omega (arith, c.ranges.publics.fits)) (λ i. omega (arith, c.type_inv.bytes i)) c.checked_message.ensures

pub returns-clause-memory : goal.returns-clause-memory
returns-clause-memory c =
    reads_memory c.args.agents c.args.publics c.args.bytes.now c.checked_message.result (λ i. omega (arith, c.type_inv.bytes i)) c.checked_message.ensures
