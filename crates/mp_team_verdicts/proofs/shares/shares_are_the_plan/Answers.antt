use Rattle.mp_team_verdicts.proofs.Sharing.{shares_in_runs}
use Rattle.mp_team_verdicts.proofs.shares.shares_are_the_plan.Goals as goal

pub returns : goal.returns
returns c = λ team schedule w first agent cost run finished there given.
    shares_in_runs team run.is_team schedule w run.leads finished first agent cost there given
