use Rattle.mp_messages.specs.declared.history.Event.TheVariants.{Expand}
use Rattle.mp_schedule.proofs.Onward.{if_it_may}
use Rattle.mp_schedule.proofs.team.World.expand_once.Goals as goal

pub returns-clause-done : goal.returns-clause-done
returns-clause-done g c = if_it_may g.H.Heuristic.value
    (Expand c.args.agent) c.args.self.now c.happens.new.self c.in_ok-happens.field-0 c.in_ok-happens.ensures.did
