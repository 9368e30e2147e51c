-- Certificates that no plan is cheaper (Mugdan, Christen and Eriksson 2023, Optimality Certificates for Classical Planning:
-- bounds that are consistent along each step), for a team whose agents search by themselves.
use Rattle.std.specs.Prelude.{◌≢◌, ℕ, ◌+◌, ◌≤◌, ◌==◌, ◌&&◌, Bool, List, map, find, Contains}
use Rattle.std.specs.Cmp.Lexicographic.{pointwise}
use Rattle.std.specs.List.{AllPairs}
use Rattle.std.specs.Option.{option_map_or}
use Rattle.std.specs.FinSet as set
use Rattle.mp_sets.specs.Numbers.{Numbers, same}
use Rattle.mp_task.specs.AgentTask.{AgentTask}
use Rattle.mp_task.specs.Plan.{JointState}
use Rattle.mp_reach.specs.LeadsOn.{Known, LeadsOn, IsGoal, IsRoot}
use Rattle.mp_audit.specs.declared.certificate.Bound.{Bound}
use Rattle.mp_audit.specs.declared.certificate.Certificate.{Certificate}

-- the facts of a list as a set
abbrev pub set_of : List ℕ → Numbers
set_of facts = set.from_list facts

-- the joint state of an entry
abbrev pub state_of : Bound → JointState
state_of b = record { publics = set_of b.publics; privates = map set_of b.privates }

-- and in whose search it stands
abbrev pub known_of : Bound → Known
known_of b = record { agent = b.agent; state = state_of b }

-- whether two joint states are one
abbrev pub same_state : JointState → JointState → Bool
same_state s t = same s.publics t.publics && pointwise same s.privates t.privates

-- and stand in the search of one agent
abbrev pub same_known : Known → Known → Bool
same_known k l = k.agent == l.agent && same_state k.state l.state

-- The bound of a joint state in an agent's search: that of the first entry that has it, and 0 where none has.
abbrev pub bound_of : List Bound → Known → ℕ
bound_of bounds k = option_map_or (λ b. b.bound) (find (λ b. same_known (known_of b) k) bounds) 0

-- A certificate shows that no plan of the team costs less than it says.
pub record Audited (tasks : List AgentTask) (certificate : Certificate) : Type 0 where
  -- no two entries have one agent and one joint state
  pub once : AllPairs (λ a b. known_of a ≢ known_of b) certificate.bounds
  -- at the start each agent has a bound of at least the cost
  pub starts : (k : Known) → IsRoot tasks k → certificate.cost ≤ bound_of certificate.bounds k
  -- no entry's joint state is a goal
  pub goals : (b : Bound) → Contains certificate.bounds b → ¬ IsGoal tasks (known_of b)
  -- wherever an entry leads on, in its own search or in that of an agent that this concerns, the bound falls by no more
  -- than the action costs
  pub steps :
      (b : Bound) (cost : ℕ) (k : Known)
      → Contains certificate.bounds b
      → LeadsOn tasks (known_of b) cost k
      → b.bound ≤ bound_of certificate.bounds k + cost
