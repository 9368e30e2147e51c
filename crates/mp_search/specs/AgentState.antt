-- A state as one agent of a team knows it (MAD-A*, Nissim and Brafman 2014).
use Rattle.std.specs.Prelude.{ℕ, ◌-◌, ◌==◌, ◌&&◌, ◌||◌, not, Bool, false, List, map, slice_set, if◌then◌else◌}
use Rattle.std.specs.Cmp.Lexicographic.{pointwise}
use Rattle.std.specs.List.{enumerate_from, list_all}
use Rattle.std.specs.FinSet as set
use Rattle.mp_sets.specs.declared.tag.Tag.{Tag}
use Rattle.mp_sets.specs.Numbers.{Numbers, same, holds, after}
use Rattle.mp_task.specs.declared.act.Act.{Act}
use Rattle.mp_task.specs.AgentTask.{AgentTask}
use Rattle.mp_task.specs.Met.{is_met}
use Rattle.mp_task.specs.Plan as plan

-- The public facts and the agent's own private facts that are true, and for each agent of the team a tag that stands for
-- its private facts. The tag in the agent's own place tells nothing.
pub record AgentState : Type 0 where
  pub publics : Numbers
  pub mine : Numbers
  pub tags : List Tag

-- the tag that tells nothing
abbrev pub no_tag : Tag
no_tag = record { token = 0; met = false }

abbrev pub same_tag : Tag → Tag → Bool
same_tag a b = a.token == b.token && (if a.met then b.met else not b.met)

-- two states are one where they have the same facts and tags
abbrev pub same_state : AgentState → AgentState → Bool
same_state s t = same s.publics t.publics && (same s.mine t.mine && pointwise same_tag s.tags t.tags)

-- tags with another one in the place of an agent; agents are numbered from 1
abbrev pub with_tag : List Tag → ℕ → Tag → List Tag
with_tag tags agent tag = slice_set tags (agent - 1) tag

-- the tag of an agent at the start, whose initial set has the token 0
abbrev pub start_tag : Bool → Tag
start_tag met = record { token = 0; met = met }

-- the state at the start; agents are numbered from 1
abbrev pub start_state : AgentTask → AgentState
start_state t = record {
  publics = set.from_list t.start_pub;
  mine = set.from_list t.start_priv;
  tags = with_tag (map start_tag t.met) t.me no_tag;
}

-- the private goals of all other agents hold, as their met bytes say
abbrev pub others_are_met : AgentTask → AgentState → Bool
others_are_met t s = list_all (λ x. x.0 == t.me || x.1.met) (enumerate_from 1 s.tags)

-- all goals of the team hold
abbrev pub is_goal_state : AgentTask → AgentState → Bool
is_goal_state t s = holds s.publics t.goal_pub && (is_met t s.mine && others_are_met t s)

-- an own action may be applied where its preconditions are true
abbrev pub applies : Act → AgentState → Bool
applies act s = plan.applies act s.publics s.mine

-- the state after an own action: the other agents' private facts are as they were
abbrev pub successor : Act → AgentState → AgentState
successor act s = record {
  publics = after s.publics act.del_pub act.add_pub;
  mine = after s.mine act.del_priv act.add_priv;
  tags = s.tags;
}
