use Rattle.mp_solve.proofs.Finds.{are_of_run}
use Rattle.mp_solve.proofs.telling.solution_of.Goals as goal

pub told-requires : goal.told-requires
told-requires g c = record {
  team = c.requires.team;
  run = are_of_run g.H.Heuristic.value c.args.world c.requires.done c.machines.result.now c.machines.ensures.agents;
}
