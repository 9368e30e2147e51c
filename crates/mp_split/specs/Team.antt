-- The tasks of a team from the factors of its agents.
use Rattle.std.specs.Prelude.{◌≡◌, ◌<◌, ℕ, ◌+◌, List, map, length, Some, slice_get}
use Rattle.mp_forms.specs.declared.factor.Factor.{Factor}
use Rattle.mp_lifting.specs.declared.view.OpenView.{OpenView}
use Rattle.mp_views.specs.Lines.{view_text}
use Rattle.mp_views.specs.Opened.{joined, open_view}
use Rattle.mp_grounder.specs.declared.grounded.Ground.{Ground}
use Rattle.mp_grounder.specs.declared.refusal.GroundRefusal.{GroundRefusal}
use Rattle.mp_grounder.specs.Grounded.{IsGrounded, Known}
use Rattle.mp_grounder.specs.Limits.{IsRefusedBy, IsWithin, KeepsLimits}
use Rattle.mp_split.specs.declared.team.Tasks.{Tasks}
use Rattle.mp_split.specs.Closed.{closed_view}
use Rattle.mp_split.specs.TaskOf.{Shown, task_of}

-- what all agents show before grounding
abbrev pub open_views : List Factor → OpenView
open_views team = joined (map open_view team)

-- what the agent at a place knows; agents are numbered from 1
abbrev pub known_at : List Factor → ℕ → Factor → Known
known_at team place factor = record { me = place + 1; factor = factor; view = open_views team }

-- these are the grounded factors of a team, one for each agent
pub record AreGrounded (team : List Factor) (grounds : List Ground) : Type 0 where
  pub one_each : length grounds ≡ length team
  pub each :
      (place : ℕ) (factor : Factor) (g : Ground)
      → slice_get team place ≡ Some factor → slice_get grounds place ≡ Some g
      → IsGrounded (known_at team place factor) g × KeepsLimits g

abbrev pub shown_by : List Factor → List Ground → Shown
shown_by team grounds = record { init = (open_views team).init; views = map closed_view grounds }

-- The tasks of a team are those that its grounded factors and what its agents show lead to.
pub record AreTasksOf (team : List Factor) (t : Tasks) : Type 0 where
  pub grounds : List Ground
  pub grounded : AreGrounded team grounds
  pub tasks : t.tasks ≡ map (task_of (shown_by team grounds)) grounds
  pub steps : t.steps ≡ map (λ g. g.steps) grounds
  pub one_view_each : length t.views ≡ length team
  -- an agent shows what it shows before grounding, and then what it shows after it
  pub views :
      (place : ℕ) (factor : Factor) (g : Ground)
      → slice_get team place ≡ Some factor → slice_get grounds place ≡ Some g
      → slice_get t.views place ≡ Some (view_text (open_view factor) (closed_view g))

-- A refusal is that of the first agent whose factor is not grounded: no count of an earlier agent passes its limit.
pub record IsFirstRefusal (team : List Factor) (e : GroundRefusal) : Type 0 where
  pub place : ℕ
  pub factor : Factor
  pub at : slice_get team place ≡ Some factor
  pub refused : IsRefusedBy (known_at team place factor) e
  pub earlier :
      (before : ℕ) (other : Factor)
      → before < place → slice_get team before ≡ Some other
      → IsWithin (known_at team before other)
