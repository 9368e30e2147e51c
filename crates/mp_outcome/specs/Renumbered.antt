-- Shares of a plan with other numbers, which stand for the same steps.
use Rattle.std.specs.Prelude.{◌≡◌, ◌<◌, List, length, All}
use Rattle.mp_joint.specs.declared.plan.PlanStep.{PlanStep}
use Rattle.mp_trail.specs.declared.steps.Timed.{Timed}
use Rattle.mp_text.specs.Outcome.{agent_lines, share_lines}

-- the action's number is the place of a name
abbrev pub IsNamed : List PlanStep → Timed → Type 0
IsNamed names timed = timed.action < length names

-- The names and the share with other numbers give the lines that this share of these own actions
-- has. Each other number is the place of a name, so a name more at the end changes no line.
pub record IsRenumbered
    (own : List PlanStep) (share : List Timed)
    (names : List PlanStep) (other : List Timed)
    : Type 0 where
  pub named : All (IsNamed names) other
  pub lines : share_lines names other ≡ share_lines own share

-- The names and the shares with other numbers give the lines that these shares of all agents have,
-- and each agent with a share has its names.
pub record AreRenumbered
    (own : List (List PlanStep)) (shares : List (List Timed))
    (names : List (List PlanStep)) (others : List (List Timed))
    : Type 0 where
  pub one_each : length others ≡ length shares
  pub named : length names ≡ length others
  pub lines : agent_lines names 0 others ≡ agent_lines own 0 shares
