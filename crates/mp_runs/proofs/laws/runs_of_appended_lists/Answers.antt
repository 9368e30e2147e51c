use Rattle.mp_runs.proofs.Runs.{run-append, front_is_legal}
use Rattle.mp_runs.proofs.laws.runs_of_appended_lists.Goals as goal

pub returns : goal.returns
returns g c = record {
  appended = λ step s before events. run-append step s before events;
  front = λ step s before events legal. front_is_legal step s before events legal;
}
