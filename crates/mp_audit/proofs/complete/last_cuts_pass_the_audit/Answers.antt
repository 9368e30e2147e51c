use Rattle.mp_world.proofs.Runs.{run_with}
use Rattle.mp_team_states.specs.Expansions.{nothing_known}
use Rattle.mp_audit.proofs.PassingLemmas.{last_cut_fits, last_cut_passes}
use Rattle.mp_audit.proofs.complete.last_cuts_pass_the_audit.Goals as goal

pub returns : goal.returns
returns c = record {
  passes = λ team schedule w cost steps certificate same run.
      last_cut_passes team.limit team.tasks schedule w cost steps certificate (run_with team nothing_known schedule w same run);
  fits = λ team schedule w cost steps certificate same run.
      last_cut_fits team.limit team.tasks schedule w cost steps certificate (run_with team nothing_known schedule w same run);
}
