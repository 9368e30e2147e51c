use Rattle.mp_team_snapshots.proofs.Teams.{has_cut}
use Rattle.mp_team_snapshots.proofs.cuts.cuts_are_worlds.Goals as goal

pub returns : goal.returns
returns c = λ team k schedule w are some ran. has_cut team schedule w ran are k some
