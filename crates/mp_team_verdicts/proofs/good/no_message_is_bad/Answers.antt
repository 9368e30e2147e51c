use Rattle.mp_team_verdicts.proofs.Leading.{good_in_runs, leads_in_runs}
use Rattle.mp_team_verdicts.proofs.good.no_message_is_bad.Goals as goal

pub returns-clause-taken : goal.returns-clause-taken
returns-clause-taken c = λ team schedule w from to r bytes later run sender apart there going front.
    good_in_runs team run.is_team schedule w run.leads from to r bytes later sender apart there going front

pub returns-clause-events : goal.returns-clause-events
returns-clause-events c = λ team schedule w event run legal. leads_in_runs team run.is_team schedule w run.leads event legal
