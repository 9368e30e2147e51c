use Rattle.mp_world.proofs.Stepping.{event_is_step, event_keeps_team, start_is_team, team_lists}
use Rattle.mp_world.proofs.laws.events_change_one_agent.Goals as goal

pub returns-clause-step : goal.returns-clause-step
returns-clause-step c = λ value tasks w event next is leads. event_is_step value w (team_lists tasks w is) event next leads

pub returns-clause-team : goal.returns-clause-team
returns-clause-team c = λ value tasks w event next is leads. event_keeps_team value tasks w event next is leads

pub returns-clause-start : goal.returns-clause-start
returns-clause-start c = λ team. start_is_team team
