use Rattle.mp_world.specs.AgentWords.{Expand}
use Rattle.mp_world.proofs.Runs.{run_with}
use Rattle.mp_world.proofs.Stepping.{event_is_step, team_lists}
use Rattle.mp_team_states.specs.Expansions.{nothing_known}
use Rattle.mp_team_states.proofs.Once.{run_expands_once}
use Rattle.mp_team_states.proofs.StillExpanded.{stays_expanded}
use Rattle.mp_team_states.proofs.Worth.{expands_one}
use Rattle.mp_team_states.proofs.explored_laws.expansions_are_not_wasted.Goals as goal

pub returns-clause-one : goal.returns-clause-one
returns-clause-one c = λ value tasks w next agent are team sound leads.
    expands_one tasks are w team sound value next agent (event_is_step value w (team_lists tasks w team) (Expand agent) next leads)

pub returns-clause-stay : goal.returns-clause-stay
returns-clause-stay c = λ value tasks w next event agent number team leads.
    stays_expanded value w next event (event_is_step value w (team_lists tasks w team) event next leads) agent number

pub returns-clause-once : goal.returns-clause-once
returns-clause-once c = λ team schedule w same alone run.
    let it = run_with team nothing_known schedule w same run in
    run_expands_once team.tasks it.is_team.tasks alone team.limit it.is_team schedule w it.leads
