use Rattle.std.proofs.Common.{ap, ◌∙◌, arith}
use Rattle.mp_machine.specs.LocalStep.{may}
use Rattle.mp_schedule.proofs.MachinePlaces.{found, may_is}
use Rattle.mp_schedule.proofs.steps.may.Goals as goal

pub returns : goal.returns
returns g c = λ mail.
    let ms = c.args.machines.now in
    let m = c.index-machines-at.result in
    let at = c.place-at.result in
    c.can.ensures ∙ ap (may m.done) c.local_of.ensures
    ∙ may_is ms mail c.args.event.now at m (c.place-at.ensures.number
    ∙ c.agent_of.ensures) (found ms at m (omega arith) c.index-machines-at.is)
