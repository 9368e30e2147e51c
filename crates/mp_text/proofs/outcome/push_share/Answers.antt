use Rattle.mp_text.proofs.ShareLemmas.{share_more}
use Rattle.mp_text.proofs.outcome.push_share.Goals as goal

pub loop-timed-preserved : goal.loop-timed-preserved
loop-timed-preserved c =
    share_more c.args.own.now c.args.share.now c.loop-timed.timed-index _ c.args.text.now c.loop-timed.text _ c.loop-timed-test.true c.loop-timed.invariant c.in_ok-push_timed.ensures
