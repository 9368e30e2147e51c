use Rattle.std.proofs.Common.{◌+◌, ◌==◌, not}
use Rattle.mp_machine.specs.Outgoing.{others}
use Rattle.mp_schedule.proofs.Onward.{each_done, nothing_done}
use Rattle.mp_schedule.specs.GoingOn.{TakesAll}
use Rattle.mp_search.proofs.SendingSteps.{numbers_more}
use Rattle.mp_search.specs.Concern.{one_if}
use Rattle.mp_schedule.proofs.team.World.take_from_others.Goals as goal

pub loop-before-init : goal.loop-before-init
loop-before-init g c = nothing_done c.args.self.now

pub loop-before-preserved : goal.loop-before-preserved
loop-before-preserved g c =
    each_done (TakesAll g.H.Heuristic.value c.args.by) (others c.args.by c.loop-before.before)
    (one_if (not (c.loop-before.before + 1 == c.args.by)) (c.loop-before.before + 1)) (others c.args.by
    (c.loop-before.before + 1))
    c.args.self.now c.loop-before.self c.take_from.new.self (numbers_more (λ agent. not
    (agent == c.args.by)) c.loop-before.before)
    c.loop-before.invariant c.in_ok-take_from.ensures.done
