-- The nameless task of one agent, as contracts and definitions see it.
use Rattle.std.specs.Prelude.{ℕ, Bool, List}
use Rattle.mp_task.specs.declared.act.Act.{Act}
use Rattle.mp_task.specs.declared.act.Far.{Far}

pub record AgentTask : Type 0 where
  pub me : ℕ
  pub agents : ℕ
  pub publics : ℕ
  pub privates : ℕ
  pub start_pub : List ℕ
  pub start_priv : List ℕ
  pub goal_pub : List ℕ
  pub goal_priv : List ℕ
  pub acts : List Act
  pub far : List Far
  pub met : List Bool
