-- Which agents' public actions may be applicable.
use Rattle.std.specs.Prelude.{◌≡◌, ℕ, ◌+◌, ◌==◌, ◌&&◌, Bool, List, All, IfSome, length, slice_get}
use Rattle.std.specs.List.{list_any}
use Rattle.mp_sets.specs.Numbers.{Numbers, holds}
use Rattle.mp_task.specs.declared.act.Far.{Far}
use Rattle.mp_task.specs.AgentTask.{AgentTask}
use Rattle.mp_task.specs.Limits.{AllLess}
use Rattle.mp_applicable.specs.declared.far.FarIndex.{FarIndex}

-- a public action of an agent may be applicable: its public preconditions are true
abbrev pub may_act : List Far → ℕ → Numbers → Bool
may_act far agent publics = list_any (λ part. part.by == agent && holds publics part.pre) far

-- lists of facts tell of each set of public facts whether a public action of an agent may be applicable
pub record ArePreconditionsOf (t : AgentTask) (agent : ℕ) (lists : List (List ℕ)) : Type 0 where
  pub tells : (s : Numbers) → list_any (holds s) lists ≡ may_act t.far agent s
  pub fits : All (AllLess t.publics) lists

-- for each agent of the team
pub record IsFarIndexOf (t : AgentTask) (index : FarIndex) : Type 0 where
  pub agents : length index.lists.items ≡ t.agents
  pub lists : (k : ℕ) → IfSome (slice_get index.lists.items k) (λ set. ArePreconditionsOf t (k + 1) set.keys)
