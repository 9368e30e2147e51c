use Rattle.mp_messages.proofs.Comparisons.{Decides-message, Decides-state, Decides-findings}
use Rattle.mp_messages.proofs.laws.equal_messages_are_one.Goals as goal

pub returns-clause-messages : goal.returns-clause-messages
returns-clause-messages c = Decides-message

pub returns-clause-states : goal.returns-clause-states
returns-clause-states c = Decides-state

pub returns-clause-findings : goal.returns-clause-findings
returns-clause-findings c = Decides-findings
