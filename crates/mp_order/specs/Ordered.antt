-- Plans in which each private action stands directly before its agent's next public one, or in its
-- agent's closing group (after MAD-A*, Nissim and Brafman 2014: an agent sends on what a public
-- action led to, so that its private actions are wanted just before one).
use Rattle.std.specs.Prelude.{◌≡◌, ℕ, Bool, Some, List, [], ◌∷◌, ◌++◌, IsTrue}
use Rattle.mp_task.specs.declared.act.Act.{Act}
use Rattle.mp_task.specs.AgentTask.{AgentTask}
use Rattle.mp_task.specs.Met.{is_met}
use Rattle.mp_task.specs.Plan.{
  JointState,
  TaskStep,
  act_of,
  after_act,
  applies,
  goals_hold,
  private_of,
}
use Rattle.mp_task.specs.Public.{is_public, is_private}

-- In a state an agent takes a step, and reaches another state: the step stands for an action of the
-- agent that may be applied there, and the action passes a test.
pub record TakesStep
    (tasks : List AgentTask)
    (agent : ℕ)
    (passes : Act → Bool)
    (s : JointState)
    (step : TaskStep)
    (reached : JointState)
    : Type 0 where
  pub by : step.agent ≡ agent
  pub act : Act
  pub is : act_of tasks step ≡ Some act
  pub kind : IsTrue (passes act)
  pub may : IsTrue (applies act s.publics (private_of s agent))
  pub leads : reached ≡ after_act s agent act

-- A block: an agent takes some private actions, or none, and then a public one.
pub data IsBlock
    (tasks : List AgentTask)
    (agent : ℕ)
    : JointState → List TaskStep → JointState → Type 0 where
  by_public :
      (s reached : JointState) (step : TaskStep)
      → TakesStep tasks agent is_public s step reached
      → IsBlock tasks agent s (step ∷ []) reached
  by_private :
      (s next reached : JointState) (step : TaskStep) (steps : List TaskStep)
      → TakesStep tasks agent is_private s step next
      → IsBlock tasks agent next steps reached
      → IsBlock tasks agent s (step ∷ steps) reached

-- A closing group: as long as its private goals don't all hold, an agent takes private actions.
pub data IsClosingGroup
    (tasks : List AgentTask)
    (t : AgentTask)
    : JointState → List TaskStep → JointState → Type 0 where
  met : (s : JointState) → IsTrue (is_met t (private_of s t.me)) → IsClosingGroup tasks t s [] s
  unmet :
      (s next reached : JointState) (step : TaskStep) (steps : List TaskStep)
      → ¬ IsTrue (is_met t (private_of s t.me))
      → TakesStep tasks t.me is_private s step next
      → IsClosingGroup tasks t next steps reached
      → IsClosingGroup tasks t s (step ∷ steps) reached

-- the closing groups of some agents, one agent after another
pub data AreClosingGroups
    (tasks : List AgentTask)
    : List AgentTask → JointState → List TaskStep → JointState → Type 0 where
  no_agent : (s : JointState) → AreClosingGroups tasks [] s [] s
  first_agent :
      (t : AgentTask) (others : List AgentTask) (s next reached : JointState)
      (group groups : List TaskStep)
      → IsClosingGroup tasks t s group next
      → AreClosingGroups tasks others next groups reached
      → AreClosingGroups tasks (t ∷ others) s (group ++ groups) reached

-- An ordered plan from a state: blocks one after another, and then the closing groups of all
-- agents, by rising number where the tasks agree, after which all goals are true.
pub data IsOrdered (tasks : List AgentTask) : JointState → List TaskStep → Type 0 where
  closing :
      (s reached : JointState) (groups : List TaskStep)
      → AreClosingGroups tasks tasks s groups reached
      → IsTrue (goals_hold tasks reached)
      → IsOrdered tasks s groups
  block :
      (agent : ℕ) (s next : JointState) (steps later : List TaskStep)
      → IsBlock tasks agent s steps next
      → IsOrdered tasks next later
      → IsOrdered tasks s (steps ++ later)
