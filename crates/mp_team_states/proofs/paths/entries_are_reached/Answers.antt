use Rattle.mp_world.specs.World.{World}
use Rattle.mp_world.proofs.Runs.{run_has}
use Rattle.mp_team_states.specs.Paths.{AreReached}
use Rattle.mp_team_states.specs.Sound.{AreStatesSound}
use Rattle.mp_team_states.proofs.ReachedEntries.{event_reaches, one_path, told_rightly}
use Rattle.mp_team_states.proofs.StartReached.{start_reaches}
use Rattle.mp_team_states.proofs.StartSound.{start_states_sound}
use Rattle.mp_team_states.proofs.StepsSound.{states_stay_sound}
use Rattle.mp_team_states.proofs.paths.entries_are_reached.Goals as goal

pub returns-clause-start : goal.returns-clause-start
returns-clause-start c = λ team is_team. start_reaches team is_team

pub returns-clause-events : goal.returns-clause-events
returns-clause-events c = λ value tasks w next event are team sound is reached.
    event_reaches tasks are w team sound reached value next event is

pub returns-clause-runs : goal.returns-clause-runs
returns-clause-runs c = λ team schedule w run.
    (run_has team (λ (w : World). AreStatesSound team.tasks w × AreReached team.tasks w)
    (start_states_sound team run.is_team, start_reaches team run.is_team)
    (λ v event next of_team both is. (
      states_stay_sound team.tasks run.is_team.tasks v of_team both.0 team.value next event is,
      event_reaches team.tasks run.is_team.tasks v of_team both.0 both.1 team.value next event is,
    ))
    schedule w run.leads).1

pub returns-clause-messages : goal.returns-clause-messages
returns-clause-messages c = λ tasks w sender u m are team sound reached at state.
    told_rightly tasks are w team sound reached sender u m at state

pub returns-clause-one : goal.returns-clause-one
returns-clause-one c = λ w agent number steps others path path_too. one_path w agent number steps others path path_too
