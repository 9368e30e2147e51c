use Rattle.std.specs.Prelude.{[], IsTrue}
use Rattle.mp_runs.proofs.Runs.{run_keeps, run_keeps_history}
use Rattle.mp_runs.proofs.laws.runs_have_what_steps_keep.Goals as goal

pub returns : goal.returns
returns g c = record {
  of_states = λ step holds keeps events s t first ran. run_keeps step (λ u. IsTrue (holds u)) keeps events s t first ran;
  of_histories = λ step holds keeps events s t first ran. run_keeps_history step (λ past u. IsTrue (holds past u)) keeps [] events s t first ran;
}
