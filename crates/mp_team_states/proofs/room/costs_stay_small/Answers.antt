use Rattle.mp_world.specs.World.{World}
use Rattle.mp_world.proofs.Runs.{run_has}
use Rattle.mp_team_states.specs.Room.{AreSmall}
use Rattle.mp_team_states.specs.Sound.{AreStatesSound}
use Rattle.mp_team_states.proofs.RoomCounts.{few_expansions, room_left, start_small}
use Rattle.mp_team_states.proofs.RoomLemmas.{event_small, sent_small}
use Rattle.mp_team_states.proofs.StartSound.{start_states_sound}
use Rattle.mp_team_states.proofs.StepsSound.{states_stay_sound}
use Rattle.mp_team_states.proofs.room.costs_stay_small.Goals as goal

pub returns-clause-start : goal.returns-clause-start
returns-clause-start c = λ team is_team values. start_small team is_team values

pub returns-clause-events : goal.returns-clause-events
returns-clause-events c = λ value tasks w next event are values team sound is small.
    event_small tasks are w team sound small value values next event is

pub returns-clause-runs : goal.returns-clause-runs
returns-clause-runs c = λ team schedule w values run.
    (run_has team (λ (w : World). AreStatesSound team.tasks w × AreSmall w)
    (start_states_sound team run.is_team, start_small team run.is_team values)
    (λ v event next of_team both is. (
      states_stay_sound team.tasks run.is_team.tasks v of_team both.0 team.value next event is,
      event_small team.tasks run.is_team.tasks v of_team both.0 both.1 team.value values next event is,
    ))
    schedule w run.leads).1

pub returns-clause-messages : goal.returns-clause-messages
returns-clause-messages c = λ tasks w sender u m are team sound small at state.
    sent_small tasks are w team sound small sender u m at state

pub returns-clause-counts : goal.returns-clause-counts
returns-clause-counts c = λ tasks w are team sound. few_expansions tasks are w team sound

pub returns-clause-room : goal.returns-clause-room
returns-clause-room c = λ tasks w agent number e are team sound small has.
    room_left tasks are w team sound small agent number e has
