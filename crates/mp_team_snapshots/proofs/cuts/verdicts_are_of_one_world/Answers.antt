use Rattle.mp_team_snapshots.proofs.Teams.{has_verdict_world}
use Rattle.mp_team_snapshots.proofs.cuts.verdicts_are_of_one_world.Goals as goal

pub returns : goal.returns
returns c = λ team schedule w first verdict are ran there given.
    has_verdict_world team schedule w ran first there verdict given are
