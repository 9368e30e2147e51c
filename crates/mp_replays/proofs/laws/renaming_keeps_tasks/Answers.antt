use Rattle.mp_replays.proofs.laws.renaming_keeps_tasks.Goals as goal

pub returns : goal.returns
returns c = record {
  tasks = c.renaming_changes_no_task.ensures.tasks;
  views = c.renaming_changes_no_task.ensures.views;
  steps = c.renaming_changes_no_task.ensures.steps;
}
