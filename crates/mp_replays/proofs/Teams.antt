-- The tasks of a team's files are numbered, one for each agent.
use Rattle.std.proofs.Common.{◌≡◌, List, All, length}
use Rattle.mp_forms.specs.declared.factor.Factor.{Factor}
use Rattle.mp_ground_laws.specs.Checked.{IsChecked}
use Rattle.mp_world.specs.World.{AreNumbered}
use Rattle.mp_world.proofs.Agents.{agree_numbered}
use Rattle.mp_split.specs.Team.{AreTasksOf}
use Rattle.mp_split.specs.declared.team.Tasks.{Tasks}
use Rattle.mp_stands.proofs.Files.{files_stand}

module _ (team : List Factor) (t : Tasks) (checked : All IsChecked team) (are : AreTasksOf team t) where
  pub tasks_numbered : AreNumbered t.tasks
  tasks_numbered = agree_numbered t.tasks (files_stand team t checked are).2.agree

  pub one_each : length t.tasks ≡ length team
  one_each = (files_stand team t checked are).2.one_each
