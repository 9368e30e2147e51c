use Rattle.mp_order.proofs.OrderedExample.{are_a_team, unordered_solves, unordered_costs_7, ordered_is_ordered, ordered_costs_6}
use Rattle.mp_order.proofs.example.worked_plan_is_put_in_order.Goals as goal

pub returns : goal.returns
returns c = record {
  team = are_a_team;
  solves = unordered_solves;
  costs_7 = unordered_costs_7;
  in_order = ordered_is_ordered;
  costs_6 = ordered_costs_6;
}
