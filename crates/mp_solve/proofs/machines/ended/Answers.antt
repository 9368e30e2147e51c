use Rattle.mp_solve.proofs.Ends.{has_ended}
use Rattle.mp_solve.proofs.machines.ended.Goals as goal

pub returns : goal.returns
returns g c =
    has_ended g.H.Heuristic.value c.args.limit c.args.tasks c.in_ok-world.world c.round_robin.new.self
    c.in_ok-world.ensures.start c.in_ok-round_robin.ensures.done c.comes_from_a_run.ensures.team
    c.comes_from_a_run.ensures.run
