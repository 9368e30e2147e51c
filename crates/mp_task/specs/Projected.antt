-- The projected problem of an agent (Nissim and Brafman, MAD-A*): its own actions, and of the other
-- agents' public actions what the team sees of them.
use Rattle.std.specs.Prelude.{ℕ, ◌+◌, ◌-◌, nat_lt, List, ◌++◌, map, if◌then◌else◌}
use Rattle.std.specs.FinSet as set
use Rattle.mp_sets.specs.Numbers.{Numbers, numbers_below}
use Rattle.mp_task.specs.declared.act.Act.{Act}
use Rattle.mp_task.specs.declared.act.Far.{Far}
use Rattle.mp_task.specs.AgentTask.{AgentTask}
use Rattle.mp_task.specs.Strips.{Operator, Problem}

-- Public facts keep their numbers, and private fact k is fact P + k, where P is the number of
-- public facts.
abbrev pub facts_of : ℕ → List ℕ → List ℕ → List ℕ
facts_of publics pub_facts priv_facts = pub_facts ++ map (λ k. publics + k) priv_facts

abbrev pub own_operator : ℕ → Act → Operator
own_operator publics act = record {
  pre = facts_of publics act.pre_pub act.pre_priv;
  add = facts_of publics act.add_pub act.add_priv;
  del = facts_of publics act.del_pub act.del_priv;
  cost = act.cost;
}

abbrev pub far_operator : Far → Operator
far_operator part = record { pre = part.pre; add = part.add; del = part.del; cost = part.cost }

-- the own actions in their order, and then the parts of the others' actions
abbrev pub projected : AgentTask → Problem
projected t = record {
  facts = t.publics + t.privates;
  operators = map (own_operator t.publics) t.acts ++ map far_operator t.far;
  goals = facts_of t.publics t.goal_pub t.goal_priv;
}

-- a set of public facts and one of the agent's private facts as one state
abbrev pub projected_state : AgentTask → Numbers → Numbers → Numbers
projected_state t publics privates =
    numbers_below (t.publics + t.privates) (λ x.
    if nat_lt x t.publics then set.contains publics x else set.contains privates (x - t.publics))
