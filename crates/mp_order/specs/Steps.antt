-- Private and public steps of an agent.
use Rattle.std.specs.Prelude.{◌≡◌, ℕ, List, [], ◌∷◌, ◌++◌, All, IsTrue, IsSomeAnd}
use Rattle.mp_task.specs.AgentTask.{AgentTask}
use Rattle.mp_task.specs.Plan.{TaskStep, act_of}
use Rattle.mp_task.specs.Public.{is_public, is_private}

-- a step is an agent's, and stands for a private action
abbrev pub IsPrivateStep : List AgentTask → ℕ → TaskStep → Type 0
IsPrivateStep tasks agent step =
    (step.agent ≡ agent) × IsSomeAnd (act_of tasks step) (λ act. IsTrue (is_private act))

-- a step is an agent's, and stands for a public action
abbrev pub IsPublicStep : List AgentTask → ℕ → TaskStep → Type 0
IsPublicStep tasks agent step =
    (step.agent ≡ agent) × IsSomeAnd (act_of tasks step) (λ act. IsTrue (is_public act))

-- some private steps of an agent and then a public one
pub record ArePrivateThenPublic
    (tasks : List AgentTask)
    (agent : ℕ)
    (steps : List TaskStep)
    : Type 0 where
  pub front : List TaskStep
  pub last : TaskStep
  pub are : steps ≡ front ++ last ∷ []
  pub privates : All (IsPrivateStep tasks agent) front
  pub public : IsPublicStep tasks agent last
