-- What renaming leaves as it is, in one record.
use Rattle.std.specs.Prelude.{◌≡◌, ℕ, List, All}
use Rattle.mp_forms.specs.declared.factor.Factor.{Factor}
use Rattle.mp_ground_laws.specs.Checked.{IsChecked}
use Rattle.mp_split.specs.Team.{AreTasksOf}
use Rattle.mp_split.specs.declared.team.Tasks.{Tasks}
use Rattle.mp_stands.specs.Renaming.{Renaming}
use Rattle.mp_stands.specs.Team.{AreRenamedSteps, IsRenamedTeam}

-- Where one agent renames its private names, all agents have the same tasks and show the same bytes, and the actions
-- stand for the same steps by the other names.
pub record KeepsTasks : Type 0 where
  pub tasks :
      (place : ℕ) (r : Renaming) (team other : List Factor) (t u : Tasks)
      → All IsChecked team → All IsChecked other → IsRenamedTeam place r team other
      → AreTasksOf team t → AreTasksOf other u → u.tasks ≡ t.tasks
  pub views :
      (place : ℕ) (r : Renaming) (team other : List Factor) (t u : Tasks)
      → All IsChecked team → All IsChecked other → IsRenamedTeam place r team other
      → AreTasksOf team t → AreTasksOf other u → u.views ≡ t.views
  pub steps :
      (place : ℕ) (r : Renaming) (team other : List Factor) (t u : Tasks)
      → All IsChecked team → All IsChecked other → IsRenamedTeam place r team other
      → AreTasksOf team t → AreTasksOf other u
      → AreRenamedSteps place r team other t.steps u.steps
