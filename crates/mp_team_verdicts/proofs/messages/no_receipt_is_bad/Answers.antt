use Rattle.mp_team_verdicts.proofs.NoneBad.{none_bad}
use Rattle.mp_team_verdicts.proofs.messages.no_receipt_is_bad.Goals as goal

pub returns : goal.returns
returns c = λ team log served t is_team history has here. none_bad team is_team log served history has t here
