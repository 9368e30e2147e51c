use Rattle.mp_schedule.proofs.Onward.{did_happen}
use Rattle.mp_schedule.proofs.team.World.happens.Goals as goal

pub returns-in-Ok-clause-did : goal.returns-in-Ok-clause-did
returns-in-Ok-clause-did g c = did_happen g.H.Heuristic.value c.args.self.now c.event.new.self c.args.event
    c.in-Ok.ensures.answer c.comes_from_a_run.ensures.run
