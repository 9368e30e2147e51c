-- What follows from the law of renaming for the files of one team.
use Rattle.std.proofs.Common.{◌≡◌, List, All}
use Rattle.mp_forms.specs.declared.factor.Factor.{Factor}
use Rattle.mp_ground_laws.specs.Checked.{IsChecked}
use Rattle.mp_outcome.specs.Names.{names_of}
use Rattle.mp_split.specs.Team.{AreTasksOf}
use Rattle.mp_split.specs.declared.team.Tasks.{Tasks}
use Rattle.mp_stands.specs.Renaming.{same_names}
use Rattle.mp_replays.specs.Renamed.{KeepsTasks}
use Rattle.mp_replays.proofs.Same.{same_names_of, same_team, steps_each}

module _ (law : KeepsTasks) (team : List Factor) (checked : All IsChecked team) (t u : Tasks) (of : AreTasksOf team t)
    (also : AreTasksOf team u) where
  pub one_tasks : u.tasks ≡ t.tasks
  one_tasks = law.tasks 0 same_names team team t u checked checked (same_team team) of also

  pub one_views : u.views ≡ t.views
  one_views = law.views 0 same_names team team t u checked checked (same_team team) of also

  pub one_names : names_of team u.steps ≡ names_of team t.steps
  one_names =
      same_names_of team t.steps u.steps (steps_each team t of) (steps_each team u also)
      (law.steps 0 same_names team team t u checked checked (same_team team) of also)
