-- There is a task for each agent of a team, and they keep the limits.
use Rattle.std.proofs.Common.{◌≡◌, ◌≤◌, List, length, All}
use Rattle.mp_forms.specs.declared.factor.Factor.{Factor}
use Rattle.mp_ground_laws.specs.Checked.{IsChecked}
use Rattle.mp_solve.specs.Refused.{AreWithin}
use Rattle.mp_split.specs.Team.{AreTasksOf}
use Rattle.mp_split.specs.declared.team.Tasks.{Tasks}
use Rattle.mp_split.proofs.FirstAgents.{tasks_fit}
use Rattle.mp_stands.proofs.Files.{files_stand}
use Rattle.mp_task.specs.Limits.{IsWithinLimits}

pub as_many_tasks : (team : List Factor) (t : Tasks) → All IsChecked team → AreTasksOf team t → length t.tasks ≡ length team
as_many_tasks team t checked are = (files_stand team t checked are).2.one_each

pub within : (team : List Factor) (t : Tasks) → AreTasksOf team t → AreWithin team → length team ≤ 16 → All IsWithinLimits t.tasks
within team t are sizes most = tasks_fit team t are most
