-- How the own actions of a task are listed, so that those that apply are found by the facts that are true.
use Rattle.std.specs.Prelude.{◌≡◌, ◌⊎◌, ℕ, List, [], Some, Contains, length, slice_get, slice_index_or}
use Rattle.mp_task.specs.declared.act.Act.{Act}
use Rattle.mp_task.specs.AgentTask.{AgentTask}

-- for each public fact the numbers of some actions, for each private fact too, and some that go with no fact
pub record ActionLists : Type 0 where
  pub publics : List (List ℕ)
  pub privates : List (List ℕ)
  pub free : List ℕ

-- a number is in the list of a fact that is one of some facts
pub record IsUnder (lists : List (List ℕ)) (facts : List ℕ) (number : ℕ) : Type 0 where
  pub fact : ℕ
  pub needed : Contains facts fact
  pub listed : Contains (slice_index_or lists fact []) number

-- an action is listed under a fact that it needs, or with no fact
abbrev pub IsListed : ActionLists → ℕ → Act → Type 0
IsListed l number act =
    Contains l.free number ⊎ (IsUnder l.publics act.pre_pub number ⊎ IsUnder l.privates act.pre_priv number)

-- each action of a task is listed
pub record AreListsOf (t : AgentTask) (l : ActionLists) : Type 0 where
  pub publics : length l.publics ≡ t.publics
  pub privates : length l.privates ≡ t.privates
  pub listed : (number : ℕ) (act : Act) → slice_get t.acts number ≡ Some act → IsListed l number act

-- lists after the list of a fact has taken a number
pub record HasTaken (old : List (List ℕ)) (fact number : ℕ) (new : List (List ℕ)) : Type 0 where
  pub as_many : length new ≡ length old
  pub kept : (x k : ℕ) → Contains (slice_index_or old x []) k → Contains (slice_index_or new x []) k
  pub taken : Contains (slice_index_or new fact []) number

-- an action is listed beside those that were
pub record IsListedToo (number : ℕ) (act : Act) (old new : ActionLists) : Type 0 where
  pub publics : length new.publics ≡ length old.publics
  pub privates : length new.privates ≡ length old.privates
  pub kept : (k : ℕ) (a : Act) → IsListed old k a → IsListed new k a
  pub listed : IsListed new number act
