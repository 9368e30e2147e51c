-- The limits of the program on a task.
use Rattle.std.specs.Prelude.{◌≡◌, ℕ, ◌<◌, ◌≤◌, List, length, All}
use Rattle.mp_task.specs.declared.act.Act.{Act}
use Rattle.mp_task.specs.declared.act.Far.{Far}
use Rattle.mp_task.specs.AgentTask.{AgentTask}

-- all numbers of a list are below a size
abbrev pub AllLess : ℕ → List ℕ → Type 0
AllLess size numbers = All (λ x. x < size) numbers

-- an own action names facts that there are, and costs at most 16,000,000
pub record ActFits (publics privates : ℕ) (act : Act) : Type 0 where
  pub pre_pub : AllLess publics act.pre_pub
  pub pre_priv : AllLess privates act.pre_priv
  pub add_pub : AllLess publics act.add_pub
  pub add_priv : AllLess privates act.add_priv
  pub del_pub : AllLess publics act.del_pub
  pub del_priv : AllLess privates act.del_priv
  pub cost : act.cost ≤ 16000000

-- the part of an action names an agent of the team and facts that there are, and costs at most
-- 16,000,000
pub record FarFits (agents publics : ℕ) (part : Far) : Type 0 where
  pub from_1 : 1 ≤ part.by
  pub in_team : part.by ≤ agents
  pub pre : AllLess publics part.pre
  pub add : AllLess publics part.add
  pub del : AllLess publics part.del
  pub cost : part.cost ≤ 16000000

pub record IsWithinLimits (t : AgentTask) : Type 0 where
  pub at_most_16_agents : t.agents ≤ 16
  pub from_1 : 1 ≤ t.me
  pub in_team : t.me ≤ t.agents
  pub a_flag_each : length t.met ≡ t.agents
  pub publics : t.publics ≤ 1048560
  pub privates : t.privates ≤ 65535
  pub start_pub : AllLess t.publics t.start_pub
  pub start_priv : AllLess t.privates t.start_priv
  pub goal_pub : AllLess t.publics t.goal_pub
  pub goal_priv : AllLess t.privates t.goal_priv
  pub number_of_acts : length t.acts ≤ 200000
  pub number_of_far : length t.far ≤ 3000000
  pub acts : All (ActFits t.publics t.privates) t.acts
  pub far : All (FarFits t.agents t.publics) t.far

-- how many entries of its search an agent may be allowed to expand
abbrev pub most_expansions : ℕ
most_expansions = 10000000
