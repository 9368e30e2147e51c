use Rattle.mp_messages.proofs.Histories.{history_in_order}
use Rattle.mp_messages.proofs.laws.messages_come_in_order.Goals as goal

pub returns : goal.returns
returns c = λ log from to legal. history_in_order from to log legal
