use Rattle.mp_world.proofs.Runs.{run_has}
use Rattle.mp_team_states.specs.Sound.{AreStatesSound}
use Rattle.mp_team_states.proofs.StartSound.{start_states_sound}
use Rattle.mp_team_states.proofs.StepsSound.{records_sound, states_stay_sound}
use Rattle.mp_team_states.proofs.states.states_stay_sound.Goals as goal

pub returns-clause-start : goal.returns-clause-start
returns-clause-start c = λ team is_team. start_states_sound team is_team

pub returns-clause-events : goal.returns-clause-events
returns-clause-events c = λ value tasks w next event are team is sound.
    states_stay_sound tasks are w team sound value next event is

pub returns-clause-runs : goal.returns-clause-runs
returns-clause-runs c = λ team schedule w run.
    run_has team (AreStatesSound team.tasks) (start_states_sound team run.is_team)
    (λ v event next of_team sound is. states_stay_sound team.tasks run.is_team.tasks v of_team sound team.value next event is) schedule w run.leads

pub returns-clause-records : goal.returns-clause-records
returns-clause-records c = λ tasks w are team sound. records_sound tasks are w team sound
