use Rattle.std.proofs.Common.{◌++◌, refl}
use Rattle.mp_order.proofs.BlocksAndGroups.{group_steps, group_goals, no_fewer}
use Rattle.mp_order.proofs.Solving.{group_leads, groups_lead}
use Rattle.mp_order.proofs.parts.closing_groups_lead.Goals as goal

pub returns : goal.returns
returns c = record {
  steps = group_steps;
  reached = group_leads;
  goals = group_goals;
  no_fewer = λ tasks t s reached early front later group ran holds. no_fewer tasks t s reached early (front ++ later) front later group refl ran holds;
  all = groups_lead;
}
