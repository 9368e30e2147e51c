-- Which states are sent, and to whom (MAD-A*, Nissim and Brafman 2014, with a receiver's own reasons).
use Rattle.std.specs.Prelude.{◌≡◌, ◌≤◌, ◌-◌, [], ◌∷◌, if◌then◌else◌, ℕ, ◌==◌, ◌&&◌, ◌||◌, not, true, Bool, List, filter}
use Rattle.std.specs.List.{enumerate_from, list_any, range_with_len}
use Rattle.mp_sets.specs.Numbers.{holds}
use Rattle.mp_task.specs.declared.act.Act.{Act}
use Rattle.mp_task.specs.AgentTask.{AgentTask}
use Rattle.mp_task.specs.Met.{is_met}
use Rattle.mp_task.specs.Public.{is_public}
use Rattle.mp_search.specs.AgentState.{AgentState}

-- a public action of an agent may be applicable: its public preconditions are true
abbrev pub may_act : AgentTask → ℕ → AgentState → Bool
may_act t agent s = list_any (λ part. part.by == agent && holds s.publics part.pre) t.far

-- an agent's private goals don't all hold
abbrev pub is_unmet : ℕ → AgentState → Bool
is_unmet agent s = list_any (λ x. x.0 == agent && not x.1.met) (enumerate_from 1 s.tags)

-- A state concerns another agent where one of its public actions may be applicable, or its private goals don't all hold.
abbrev pub concerns : AgentTask → AgentState → ℕ → Bool
concerns t s agent = may_act t agent s || is_unmet agent s

-- an agent that a state is for: another one, which the state concerns
abbrev pub is_receiver : AgentTask → AgentState → ℕ → Bool
is_receiver t s agent = not (agent == t.me) && concerns t s agent

-- all of them, by rising number
abbrev pub receivers : AgentTask → AgentState → List ℕ
receivers t s = filter (is_receiver t s) (range_with_len 1 t.agents)

-- the first of them: there is none of a smaller number
pub record IsFirstReceiver (t : AgentTask) (s : AgentState) (agent : ℕ) : Type 0 where
  pub from_1 : 1 ≤ agent
  pub none_before : filter (is_receiver t s) (range_with_len 1 (agent - 1)) ≡ []
  pub is : is_receiver t s agent ≡ true
  pub within : agent ≤ t.agents

-- What an own action does may be seen by others: it is public, or it makes the agent's private goals all true.
abbrev pub is_visible : AgentTask → Act → AgentState → AgentState → Bool
is_visible t act s reached = is_public act || (not (is_met t s.mine) && is_met t reached.mine)

-- a list of an item alone, where a test says so
abbrev pub one_if : Bool → ℕ → List ℕ
one_if b item = if b then item ∷ [] else []
