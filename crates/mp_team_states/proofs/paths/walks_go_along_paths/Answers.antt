use Rattle.mp_team_states.proofs.WalkingPaths.{walk_along}
use Rattle.mp_team_states.proofs.paths.walks_go_along_paths.Goals as goal

pub returns : goal.returns
returns c = λ w agent number back r steps records there path. walk_along w records agent r there number back steps path
