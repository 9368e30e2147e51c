use Rattle.mp_plans.proofs.PackedLemmas.{actions_more}
use Rattle.mp_plans.proofs.packed.push_actions.Goals as goal

pub loop-time-preserved : goal.loop-time-preserved
loop-time-preserved c =
    actions_more c.args.plan.now c.args.times.now c.loop-time.time-index _ c.args.text.now c.loop-time.text _ c.loop-time-test.true c.loop-time.invariant c.in_ok-push_at.ensures
