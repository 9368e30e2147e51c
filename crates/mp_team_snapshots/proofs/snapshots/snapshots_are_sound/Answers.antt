use Rattle.mp_team_snapshots.proofs.Kept.{sound_kept, start_snapshots}
use Rattle.mp_team_snapshots.proofs.snapshots.snapshots_are_sound.Goals as goal

pub returns-clause-start : goal.returns-clause-start
returns-clause-start c = λ team publics of_team. start_snapshots team publics of_team

pub returns-clause-step : goal.returns-clause-step
returns-clause-step c = λ value publics tasks w event next team is step fits sound. sound_kept value publics tasks team w event next is step fits sound
