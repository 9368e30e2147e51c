-- Own actions that may be applied in a state, and what each adds.
use Rattle.std.specs.Prelude.{◌≡◌, ℕ, Bool, Option, Some, length, slice_get}
use Rattle.std.specs.FinSet as set
use Rattle.mp_sets.specs.Numbers.{Numbers, SizedSet}
use Rattle.mp_task.specs.declared.act.Act.{Act}
use Rattle.mp_task.specs.AgentTask.{AgentTask}
use Rattle.mp_applicable.specs.Applicable.{is_applicable}
use Rattle.mp_search.specs.declared.answer.Sending.{Sending}
use Rattle.mp_search.specs.declared.expansion.Scratch.{Scratch}
use Rattle.mp_search.specs.AgentState.{AgentState}
use Rattle.mp_search.specs.Expansion.{Parent, with_action}
use Rattle.mp_search.specs.StateKeys.{HasSizes, KeptStates}
use Rattle.mp_search.specs.Steps.{HasSent}

-- there is an own action of a number, and it may be applied
abbrev pub is_applicable_in : AgentTask → AgentState → ℕ → Bool
is_applicable_in t s number = is_applicable t.acts s.publics s.mine number

-- a set has the numbers of the own actions that may be applied
pub record AreFound (t : AgentTask) (s : AgentState) (found : SizedSet) : Type 0 where
  pub size : found.size ≡ length t.acts
  pub numbers : (k : ℕ) → set.contains found.members k ≡ is_applicable_in t s k

-- the own action of a number was applied
pub record HasApplied
    (t : AgentTask)
    (value : Numbers → Numbers → Option ℕ)
    (parent : Parent)
    (number : ℕ)
    (old new : KeptStates)
    (answer : Option Sending)
    : Type 0 where
  pub act : Act
  pub is : slice_get t.acts number ≡ Some act
  pub sent : HasSent t (with_action t value parent number act old.kept) old new answer

-- there is room for the sets of an expansion in a task
pub record HasRoom (t : AgentTask) (x : Scratch) : Type 0 where
  pub found : x.found.size ≡ length t.acts
  pub parent : HasSizes t.publics t.privates x.parent.state
  pub reached : HasSizes t.publics t.privates x.reached
