use Rattle.mp_stands.proofs.Teams.{same_tasks, same_views, same_steps}
use Rattle.mp_stands.proofs.renaming.renaming_changes_no_task.Goals as goal

pub returns-clause-tasks : goal.returns-clause-tasks
returns-clause-tasks c =
    λ place r team other t u checked others is one two. same_tasks place r team other checked others is t u one two

pub returns-clause-views : goal.returns-clause-views
returns-clause-views c =
    λ place r team other t u checked others is one two. same_views place r team other checked others is t u one two

pub returns-clause-steps : goal.returns-clause-steps
returns-clause-steps c =
    λ place r team other t u checked others is one two. same_steps place r team other checked others is t u one two
