-- What one agent's search has done so far, as contracts see it (MAD-A*, Nissim and Brafman 2014).
use Rattle.std.specs.Prelude.{ℕ, ◌==◌, nat_lt, not, ◌&&◌, Bool, true, false, List, map, Option, Some, None, option_map}
use Rattle.std.specs.FinSet as set
use Rattle.mp_sets.specs.Numbers.{Numbers}
use Rattle.mp_task.specs.AgentTask.{AgentTask}
use Rattle.mp_tokens.specs.Order.{order_of_use}
use Rattle.mp_store.specs.Record.{Record}
use Rattle.mp_store.specs.Minima.{least_f, least_goal}
use Rattle.mp_store.specs.Sent.{sent_entries}
use Rattle.mp_search.specs.AgentState.{AgentState}

-- what was kept and sent, and how many entries were expanded
pub record SearchRecord : Type 0 where
  pub kept : Record AgentState
  pub expansions : ℕ

-- the search of an agent in its task
pub record AgentSearch : Type 0 where
  pub task : AgentTask
  -- how many entries it may expand
  pub limit : ℕ
  pub done : SearchRecord
  -- memory ran out before, so that it does no more
  pub failed : Bool

-- whether there is a number, and it is below a bound, if one is set
abbrev pub is_below_bound : Option ℕ → Option ℕ → Bool
is_below_bound None bound = false
is_below_bound (Some x) None = true
is_below_bound (Some x) (Some b) = nat_lt x b

-- the least cost of a goal entry: no dearer state is worth an expansion
abbrev pub bound : Record AgentState → Option ℕ
bound r = option_map (λ goal. goal.0) (least_goal r)

-- an open entry is worth an expansion (A*, Hart, Nilsson and Raphael 1968)
abbrev pub is_open_below : Record AgentState → Bool
is_open_below r = is_below_bound (least_f r) (bound r)

-- as many entries were expanded as may be
abbrev pub is_spent : ℕ → SearchRecord → Bool
is_spent limit r = r.expansions == limit

abbrev pub may_expand : ℕ → SearchRecord → Bool
may_expand limit r = not (is_spent limit r) && is_open_below r.kept

-- the private sets in the states that were sent
abbrev pub sent_sets : Record AgentState → List Numbers
sent_sets r = map (λ e. e.key.mine) (sent_entries r)

-- the sets that have tokens: the initial one, and those in the states that were sent
abbrev pub tokens_given : AgentTask → Record AgentState → List Numbers
tokens_given t r = order_of_use (set.from_list t.start_priv) (sent_sets r)
