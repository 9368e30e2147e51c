use Rattle.std.proofs.Common.{sym, ◌∙◌, rules}
use Rattle.mp_messages.proofs.Messages.{state_by_kind}
use Rattle.mp_messages.proofs.decoding.checked_message.Goals as goal

pub returns-then-is_state : goal.returns-then-is_state
returns-then-is_state c =
    state_by_kind c.args.agents c.args.publics c.args.bytes.now (c.in-Err-OutOfMemory.ensures.memory (search rules)) (sym c.is_state.ensures ∙ c.if-is_state.true)
