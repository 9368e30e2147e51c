-- The message that bytes spell. It is decided by a lemma, of which the type says all: `SpelledMessage`.
use Rattle.std.specs.Prelude.{ℕ, List, Option}
use Rattle.mp_messages.specs.declared.message.Message.{Message}
use Rattle.mp_messages.specs.Spelling.{SpelledMessage}
use Rattle.mp_messages.proofs.Spelled.{spelled}

-- in a team of so many agents with so many public facts
unfoldable pub message_of : ℕ → ℕ → List ℕ → Option Message
message_of agents publics bytes =
    let decided : SpelledMessage agents publics bytes = spelled agents publics bytes in
    decided.message
