-- Joint states as sets that have sizes.
use Rattle.std.specs.Prelude.{◌≡◌, ℕ, ◌-◌, List, [], ◌∷◌, Some, Contains, map, slice_get, slice_set, option_map}
use Rattle.std.specs.FinSet as set
use Rattle.mp_sets.specs.Numbers.{Numbers, SizedSet, after}
use Rattle.mp_task.specs.AgentTask.{AgentTask}
use Rattle.mp_task.specs.declared.act.Act.{Act}
use Rattle.mp_task.specs.Plan.{JointState, private_of}
use Rattle.mp_reach.specs.LeadsOn.{Known}
use Rattle.mp_audit.specs.declared.certificate.Bound.{Bound}
use Rattle.mp_audit.specs.declared.state.JointSets.{JointSets}
use Rattle.mp_audit.specs.Audited.{set_of}
use Rattle.mp_audit.specs.Fits.{publics_of}

-- the members of each set
abbrev pub members_of : List SizedSet → List Numbers
members_of sets = map (λ s. s.members) sets

-- and its size
abbrev pub sizes_of : List SizedSet → List ℕ
sizes_of sets = map (λ s. s.size) sets

-- the joint state
abbrev pub joint_of : JointSets → JointState
joint_of x = record { publics = x.publics.members; privates = members_of x.privates.items }

-- and in the search of an agent
abbrev pub known_by : ℕ → JointSets → Known
known_by agent x = record { agent = agent; state = joint_of x }

-- its sets have the sizes that the tasks of a team say
pub record HasSizes (tasks : List AgentTask) (x : JointSets) : Type 0 where
  pub publics : x.publics.size ≡ publics_of tasks
  pub privates : sizes_of x.privates.items ≡ map (λ t. t.privates) tasks

-- the public facts, and the private ones of the task's agent, have the sizes that a task says
pub record HasSizesOf (t : AgentTask) (x : JointSets) : Type 0 where
  pub publics : x.publics.size ≡ t.publics
  pub mine : option_map (λ s. s.size) (slice_get x.privates.items (t.me - 1)) ≡ Some t.privates

-- of each of the tasks
abbrev pub HasSizesOfEach : List AgentTask → JointSets → Type 0
HasSizesOfEach tasks x = (t : AgentTask) → Contains tasks t → HasSizesOf t x

-- no private fact of a task's agent
abbrev pub no_privates : AgentTask → SizedSet
no_privates t = record { size = t.privates; members = set.empty }

-- no fact is true in it
pub record HasNoFacts (tasks : List AgentTask) (x : JointSets) : Type 0 where
  pub publics : x.publics ≡ record { size = publics_of tasks; members = set.empty }
  pub privates : x.privates.items ≡ map no_privates tasks

-- the sets of lists of private facts, with the sizes that the tasks say
abbrev pub sized_sets : List AgentTask → List (List ℕ) → List SizedSet
sized_sets [] lists = []
sized_sets (t ∷ ts) [] = []
sized_sets (t ∷ ts) (list ∷ lists) = record { size = t.privates; members = set_of list } ∷ sized_sets ts lists

-- a joint state in the search of an agent, by its sets alone
pub record SizedState : Type 0 where
  pub agent : ℕ
  pub publics : SizedSet
  pub privates : List SizedSet

abbrev pub sized : ℕ → JointSets → SizedState
sized agent x = record { agent = agent; publics = x.publics; privates = x.privates.items }

-- that of an entry
abbrev pub state_for : List AgentTask → Bound → SizedState
state_for tasks b = record {
  agent = b.agent;
  publics = record { size = publics_of tasks; members = set_of b.publics };
  privates = sized_sets tasks b.privates;
}

-- the private facts of a task's agent after an own action, and the public ones
abbrev pub mine_after : AgentTask → JointSets → Act → SizedSet
mine_after t x act = record { size = t.privates; members = after (private_of (joint_of x) t.me) act.del_priv act.add_priv }

abbrev pub publics_after : JointSets → Act → SizedSet
publics_after x act = record { size = x.publics.size; members = after x.publics.members act.del_pub act.add_pub }

-- a state differs from another one at most in the public facts that are true, and in those private facts of a task's agent
pub record IsBeside (t : AgentTask) (x y : JointSets) : Type 0 where
  pub publics : y.publics.size ≡ x.publics.size
  pub privates : sizes_of y.privates.items ≡ sizes_of x.privates.items
  pub others : (s : SizedSet) → slice_set y.privates.items (t.me - 1) s ≡ slice_set x.privates.items (t.me - 1) s
