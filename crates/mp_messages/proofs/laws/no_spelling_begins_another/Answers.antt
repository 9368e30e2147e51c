use Rattle.mp_messages.proofs.Messages.{nothing_follows}
use Rattle.mp_messages.proofs.laws.no_spelling_begins_another.Goals as goal

pub returns : goal.returns
returns c = nothing_follows
