-- What is kept of the first actions of a plan, so that the level of the next one is found.
use Rattle.std.specs.Prelude.{◌≡◌, ◌≤◌, ℕ, ◌==◌, Bool, false, List, length, Option, Some, slice_get, slice_index_or}
use Rattle.std.specs.Option.{option_map_or}
use Rattle.mp_joint.specs.declared.plan.PlanStep.{PlanStep}
use Rattle.mp_joint.specs.Plan.{Contribution}
use Rattle.mp_checker.specs.Steps.{AreNumbered, NumberedStep}
use Rattle.mp_steps.specs.declared.facts.FactMarks.{FactMarks}
use Rattle.mp_steps.specs.declared.mark.Mark.{Mark}
use Rattle.mp_steps.specs.declared.role.Role.{Role}
use Rattle.mp_steps.specs.Levels.{level_at}
use Rattle.mp_steps.specs.Marks.{AreMet, IsBest, levels_after, no_mark}
use Rattle.mp_steps.specs.Numbered.{clash_at, has, mark_in, marks_at, step_at}

-- for each fact and role the greatest level of the first actions, of so many, that have the fact in the role
abbrev pub HasMarks : (ℕ → ℕ) → ℕ → (ℕ → Option NumberedStep) → (ℕ → FactMarks) → Type 0
HasMarks level n at marks = (role : Role) (f : ℕ) → IsBest level n (λ t. has role (at t) f) (mark_in role (marks f))

-- the action of a time is one of this agent
abbrev pub of_agent : (ℕ → Option NumberedStep) → ℕ → ℕ → Bool
of_agent at agent t = option_map_or (λ (other : NumberedStep). other.agent == agent) (at t) false

-- for each agent the greatest level of its first actions
abbrev pub HasAgents : (ℕ → ℕ) → ℕ → (ℕ → Option NumberedStep) → (ℕ → Mark) → Type 0
HasAgents level n at agents = (agent : ℕ) → IsBest level n (of_agent at agent) (agents agent)

-- for each of the first actions, of so many, what it met, and then the marks of facts and agents
pub record IsLevelled (steps : List NumberedStep) (n : ℕ) (mets : List Mark) (marks : List FactMarks) (agents : List Mark) : Type 0 where
  pub long : length mets ≡ n
  pub low : (k : ℕ) (m : Mark) → slice_get mets k ≡ Some m → m.level ≤ k
  pub met : AreMet (clash_at steps) mets
  pub facts : HasMarks (level_at (levels_after mets)) n (step_at steps) (marks_at marks)
  pub own : HasAgents (level_at (levels_after mets)) n (step_at steps) (λ a. slice_index_or agents a no_mark)

-- these are what the actions of a plan met
pub record AreMetIn (team : List Contribution) (plan : List PlanStep) (mets : List Mark) : Type 0 where
  pub steps : List NumberedStep
  pub long : length mets ≡ length steps
  pub met : AreMet (clash_at steps) mets
  pub numbered : AreNumbered team plan steps
