use Rattle.std.proofs.Common.{arith}
use Rattle.mp_messages.proofs.Parts.{other_kind}
use Rattle.mp_messages.proofs.reading.decode_state_into.Goals as goal

pub returns-in_default-clause-read : goal.returns-in_default-clause-read
returns-in_default-clause-read c =
    other_kind c.args.agents c.args.facts.now.size c.args.bytes.now (λ some first. omega arith)

pub returns-in_default-2-clause-read : goal.returns-in_default-2-clause-read
returns-in_default-2-clause-read c =
    other_kind c.args.agents c.args.facts.now.size c.args.bytes.now (λ some first. omega arith)
