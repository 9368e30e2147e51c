-- The condition under which a heuristic is asked for a value.
use Rattle.std.specs.Prelude.{◌≡◌, ℕ}
use Rattle.mp_task.specs.AgentTask.{AgentTask}

-- two sizes are those of a task for which something holds, as that a heuristic was made of it
abbrev pub SizesFit : (AgentTask → Type 0) → ℕ → ℕ → Type 0
SizesFit IsFor publics privates =
    (task : AgentTask) × (IsFor task) × (publics ≡ task.publics) × (privates ≡ task.privates)
