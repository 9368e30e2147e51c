use Rattle.mp_team_snapshots.proofs.InRuns.{holds_in_runs}
use Rattle.mp_team_snapshots.proofs.snapshots.snapshots_are_sound_in_all_runs.Goals as goal

pub returns-clause-sound : goal.returns-clause-sound
returns-clause-sound c = λ team publics schedule w of_team ran. (holds_in_runs team publics of_team schedule w ran).sound

pub returns-clause-ends : goal.returns-clause-ends
returns-clause-ends c = λ team publics schedule w of_team ran. (holds_in_runs team publics of_team schedule w ran).ends
