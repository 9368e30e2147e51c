use Rattle.std.proofs.Common.{◌∷◌, []}
use Rattle.mp_messages.proofs.Histories.{history_empty, history_front, history_last, history_grows}
use Rattle.mp_messages.proofs.laws.histories_grow_by_entries.Goals as goal

pub returns-clause-empty : goal.returns-clause-empty
returns-clause-empty c = history_empty

pub returns-clause-grows : goal.returns-clause-grows
returns-clause-grows c = λ log e. (λ legal. (history_front log (e ∷ []) legal, history_last log e legal), λ both. history_grows log e both.0 both.1)
