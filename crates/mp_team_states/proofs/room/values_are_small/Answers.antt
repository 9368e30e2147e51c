use Rattle.mp_world.proofs.Basics.{All-contains}
use Rattle.mp_world.specs.AgentWords.{IsWithinLimits}
use Rattle.mp_team_states.proofs.room.values_are_small.Goals as goal

pub returns : goal.returns
returns g c = λ tasks limits t publics privates here.
    g.met.H.Heuristic.small t publics privates (All-contains IsWithinLimits tasks t limits here)
