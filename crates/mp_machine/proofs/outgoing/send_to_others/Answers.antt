use Rattle.std.proofs.Common.{◌==◌, not}
use Rattle.mp_machine.proofs.SendingOut.{sent_more}
use Rattle.mp_machine.proofs.outgoing.send_to_others.Goals as goal

pub loop-before-preserved : goal.loop-before-preserved
loop-before-preserved c =
    sent_more c.args.outs.now c.loop-before.outs c.send_to_another.new.outs (λ agent. not (agent == c.args.me)) c.loop-before.before c.args.message.now
    c.loop-before.invariant c.in_ok-send_to_another.ensures
