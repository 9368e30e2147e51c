use Rattle.mp_world.proofs.Runs.{run_with}
use Rattle.mp_team_states.specs.Expansions.{nothing_known}
use Rattle.mp_team_verdicts.proofs.Alone.{few_if_spent}
use Rattle.mp_team_verdicts.proofs.verdict_laws.one_agent_is_spent_early.Goals as goal

pub returns : goal.returns
returns c = λ team schedule w first agent same alone run there given.
    let it = run_with team nothing_known schedule w same run in
    few_if_spent team.tasks it.is_team.tasks team.limit it.is_team alone schedule w it.leads first agent there given
