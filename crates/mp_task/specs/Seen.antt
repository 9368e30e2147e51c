-- What one agent sees of joint states and of the team's plans (MAD-A*, Nissim and Brafman).
use Rattle.std.specs.Prelude.{◌≡◌, ◌≢◌, ℕ, ◌+◌, Some, IsTrue, List, [], ◌∷◌, length, slice_get}
use Rattle.mp_runs.specs.System.{System}
use Rattle.mp_sets.specs.Numbers.{Numbers}
use Rattle.mp_task.specs.declared.act.Act.{Act}
use Rattle.mp_task.specs.AgentTask.{AgentTask}
use Rattle.mp_task.specs.Plan.{JointState, TaskStep, act_of, private_of}
use Rattle.mp_task.specs.Projected.{projected, projected_state}
use Rattle.mp_task.specs.Public.{is_public, is_private, part_of}
use Rattle.mp_task.specs.Strips.{strips_system}

-- the projected problem of an agent as a transition system
abbrev pub seen_system : AgentTask → System Numbers ℕ
seen_system t = strips_system (projected t)

-- the state that an agent sees of a joint state: the public facts and its own private ones
abbrev pub seen_state : AgentTask → JointState → Numbers
seen_state t s = projected_state t s.publics (private_of s t.me)

-- What an agent sees of a step: its own action as it is, of another agent's public action the
-- public part, and of another agent's private action nothing. The parts follow the own actions in
-- the projected problem.
pub data IsSeenAs
    (tasks : List AgentTask)
    (t : AgentTask)
    (step : TaskStep)
    (seen : List ℕ)
    : Type 0 where
  as_it_is : step.agent ≡ t.me → seen ≡ step.action ∷ [] → IsSeenAs tasks t step seen
  as_part :
      (act : Act) (k : ℕ)
      → step.agent ≢ t.me
      → act_of tasks step ≡ Some act
      → IsTrue (is_public act)
      → slice_get t.far k ≡ Some (part_of step.agent act)
      → seen ≡ (length t.acts + k) ∷ []
      → IsSeenAs tasks t step seen
  as_nothing :
      (act : Act)
      → step.agent ≢ t.me
      → act_of tasks step ≡ Some act
      → IsTrue (is_private act)
      → seen ≡ []
      → IsSeenAs tasks t step seen
