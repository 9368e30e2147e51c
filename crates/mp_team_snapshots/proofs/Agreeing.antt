-- Tasks that agree, of which one is within the limits, are those of a team.
use Rattle.mp_world.proofs.Basics.{◌≤◌, List, subst, arith, Contains, slice_index_or, get_or_default, All-contains}
use Rattle.mp_task.specs.Agreement.{IsTeamMember}
use Rattle.mp_world.specs.AgentWords.{FitsTeam, AgentTask, IsWithinLimits}
use Rattle.mp_world.specs.Team.{AreTeamTasks}
use Rattle.mp_world.proofs.Agents.{agree_numbered}
use Rattle.mp_team_snapshots.specs.Team.{IsTeamOf}

pub agreeing_team : (tasks : List AgentTask) (t : AgentTask) → IsTeamMember tasks t → IsWithinLimits t → IsTeamOf t.publics tasks
agreeing_team tasks t member limits = record {
  numbered = agree_numbered tasks member.agree;
  alike = λ k d inside.
      (member.agree.alike (slice_index_or tasks k d) t (k, inside, get_or_default tasks k (slice_index_or tasks k d) d inside) member.in_team).publics;
  facts = let few = limits.publics in omega arith;
  some = let inside = member.in_team.1 in omega arith;
  agents =
      let same = (All-contains (FitsTeam tasks) tasks t member.agree.team member.in_team).agents in
      subst (λ n. n ≤ 16) same limits.at_most_16_agents;
}

pub are_of_team : (tasks : List AgentTask) (t : AgentTask) → AreTeamTasks tasks → Contains tasks t → IsTeamOf t.publics tasks
are_of_team tasks t are member = agreeing_team tasks t (record { agree = are.agree; in_team = member }) (All-contains IsWithinLimits tasks t are.within member)
