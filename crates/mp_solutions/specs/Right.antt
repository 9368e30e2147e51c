-- When an answer of a team is right for its files.
use Rattle.std.specs.Prelude.{◌≡◌, ℕ, ◌≤◌, List, length}
use Rattle.mp_forms.specs.declared.factor.Factor.{Factor}
use Rattle.mp_joint.specs.declared.plan.PlanStep.{PlanStep}
use Rattle.mp_joint.specs.FactorContribution.{team_of}
use Rattle.mp_joint.specs.Plan.{Solves, cost as cost_of}
use Rattle.mp_messages.specs.declared.history.Event.{Event}
use Rattle.mp_world.specs.declared.answer.Answer.{Answer}
use Rattle.mp_world.specs.declared.answer.Answer.TheVariants.{Nothing, Solved, Unsolvable, Undecided}
use Rattle.mp_world.specs.Team.{Team}
use Rattle.mp_world.specs.World.{World}
use Rattle.mp_team_verdicts.specs.Right.{HasExpanded, IsLeftUndecided as IsTeamLeftUndecided}

-- each plan that solves the united problem of these files costs at least so much
abbrev pub CostsAtLeast : List Factor → ℕ → Type 0
CostsAtLeast team least = (plan : List PlanStep) → Solves (team_of team) plan → least ≤ cost_of (team_of team) plan

-- no plan solves it
abbrev pub IsUnsolvable : List Factor → Type 0
IsUnsolvable team = (plan : List PlanStep) → Solves (team_of team) plan → ⊥

-- a plan of so many steps solves it at a cost, and no plan that solves costs less
pub record IsCheapest (team : List Factor) (cost steps : ℕ) (plan : List PlanStep) : Type 0 where
  pub solves : Solves (team_of team) plan
  pub cost_is : cost_of (team_of team) plan ≡ cost
  pub steps_are : length plan ≡ steps
  pub least : CostsAtLeast team cost

module _ (limit : ℕ) (team : List Factor) (last : World) where
  -- An answer is right for the files of a team whose agents have all ended in this world: a plan is a cheapest one, there is
  -- none where it says so, and an agent has expanded as many entries as it may where it says that nothing is decided. It is not
  -- right that there is no answer.
  abbrev pub IsRight : Answer → List PlanStep → Type 0
  IsRight Nothing plan = ⊥
  IsRight (Solved cost steps) plan = IsCheapest team cost steps plan
  IsRight Unsolvable plan = IsUnsolvable team
  IsRight Undecided plan = (agent : ℕ) × HasExpanded last agent limit

-- ---- For the law of searches that are left undecided.

-- The search for a plan is left undecided: an agent is at its limit, as for the tasks, and each plan that solves costs at least
-- what its least open entry did.
pub record IsLeftUndecided
    (files : List Factor)
    (team : Team)
    (schedule : List Event)
    (last : World)
    : Type 0 where
  pub left : IsTeamLeftUndecided team schedule last
  pub least : CostsAtLeast files left.undecided.at_limit.least
