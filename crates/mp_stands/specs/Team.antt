-- A team one of whose agents renames its private names.
use Rattle.std.specs.Prelude.{◌≡◌, ◌≢◌, ℕ, ◌+◌, ◌==◌, List, map, length, Some, slice_get, if◌then◌else◌}
use Rattle.mp_forms.specs.declared.factor.Factor.{Factor}
use Rattle.mp_joint.specs.declared.plan.PlanStep.{PlanStep}
use Rattle.mp_lifted.specs.Binding.{ActionBinding}
use Rattle.mp_ground_laws.specs.Named.{step_of}
use Rattle.mp_stands.specs.Renaming.{Renaming, IsRenaming, IsRenamed}

-- the agent at a place renames, and the files of the others say the same
pub record IsRenamedTeam (place : ℕ) (r : Renaming) (team other : List Factor) : Type 0 where
  pub as_many : length other ≡ length team
  pub renaming : (f : Factor) → slice_get team place ≡ Some f → IsRenaming f r
  pub renamed :
      (f g : Factor) → slice_get team place ≡ Some f → slice_get other place ≡ Some g → IsRenamed r f g
  pub others : (n : ℕ) → n ≢ place → slice_get other n ≡ slice_get team n

-- a step of the plan with the other names
abbrev pub renamed_step : Renaming → PlanStep → PlanStep
renamed_step r step =
    record { agent = step.agent; action = r.actions step.action; args = map r.objects step.args }

-- a step of the agent at a place is renamed where it is that agent
abbrev pub step_for : ℕ → Renaming → ℕ → PlanStep → PlanStep
step_for renaming r place step = if place == renaming then renamed_step r step else step

-- the steps that the actions of two teams stand for, one by one, but for the names of the agent that renames
abbrev pub AreRenamedSteps
    : ℕ → Renaming → List Factor → List Factor → List (List ActionBinding) → List (List ActionBinding) → Type 0
AreRenamedSteps renaming r team other steps others =
    (place : ℕ) (f g : Factor) (own its : List ActionBinding)
    → slice_get team place ≡ Some f → slice_get other place ≡ Some g
    → slice_get steps place ≡ Some own → slice_get others place ≡ Some its
    → map (step_of (place + 1) g) its ≡ map (step_for renaming r place) (map (step_of (place + 1) f) own)
