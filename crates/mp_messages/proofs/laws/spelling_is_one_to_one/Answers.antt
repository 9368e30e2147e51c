use Rattle.std.proofs.Common.{sym, ◌∙◌}
use Rattle.mp_messages.proofs.Messages.{same_message}
use Rattle.mp_messages.proofs.laws.spelling_is_one_to_one.Goals as goal

pub returns-clause-bytes : goal.returns-clause-bytes
returns-clause-bytes c = λ agents publics m a b p q. p.is ∙ sym q.is

pub returns-clause-message : goal.returns-clause-message
returns-clause-message c = same_message
