use Rattle.mp_messages.proofs.Histories.{history_front}
use Rattle.mp_messages.proofs.laws.fronts_of_histories_are_legal.Goals as goal

pub returns : goal.returns
returns c = history_front
