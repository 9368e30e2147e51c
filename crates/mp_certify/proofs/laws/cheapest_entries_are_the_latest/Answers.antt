use Rattle.mp_world.proofs.Runs.{run_with}
use Rattle.mp_team_states.specs.Expansions.{nothing_known}
use Rattle.mp_certify.proofs.LatestLemmas.{latest_bounds_are}
use Rattle.mp_certify.proofs.laws.cheapest_entries_are_the_latest.Goals as goal

pub returns : goal.returns
returns c = λ team schedule w cost same run. latest_bounds_are team.limit team.tasks schedule w cost (run_with team nothing_known schedule w same run)
