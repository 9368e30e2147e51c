use Rattle.mp_task.proofs.Example.{two_agree, three_agree, careful_solves, careful_costs_4, hasty_fails}
use Rattle.mp_task.proofs.agreement.worked_teams_agree.Goals as goal

pub returns : goal.returns
returns c = record {
  two = two_agree;
  three = three_agree;
  solves = careful_solves;
  costs = careful_costs_4;
  hasty = hasty_fails;
}
