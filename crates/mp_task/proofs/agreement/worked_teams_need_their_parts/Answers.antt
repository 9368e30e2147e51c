use Rattle.mp_task.proofs.Example.{two_without_one, two_with_one_twice, two_with_another_agent, three_without_one, three_with_one_twice, three_with_another_agent, three_with_agents_falling, three_with_an_added_delete}
use Rattle.mp_task.proofs.agreement.worked_teams_need_their_parts.Goals as goal

pub returns : goal.returns
returns c = record {
  two_missing = two_without_one;
  two_doubled = two_with_one_twice;
  two_by_another = two_with_another_agent;
  three_missing = three_without_one;
  three_doubled = three_with_one_twice;
  three_by_another = three_with_another_agent;
  three_falling = three_with_agents_falling;
  three_added = three_with_an_added_delete;
}
