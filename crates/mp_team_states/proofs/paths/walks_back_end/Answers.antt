use Rattle.mp_team_states.proofs.Messages.{one_number, path_over}
use Rattle.mp_team_states.proofs.paths.walks_back_end.Goals as goal

pub returns-clause-over : goal.returns-clause-over
returns-clause-over c = λ w agent number steps records path. path_over w records agent number steps path

pub returns-clause-one : goal.returns-clause-one
returns-clause-one c = λ w agent number m n over over_too. one_number w agent number m n over over_too
