use Rattle.std.proofs.Common.{◌+◌, ◌-◌, ◌++◌, reverse, arith, sym, ◌∙◌}
use Rattle.mp_steps.specs.Marks.{way_to}
use Rattle.mp_steps.proofs.LinkLemmas.{way_step}
use Rattle.mp_steps.proofs.link.way_back.Goals as goal

pub loop-preserved : goal.loop-preserved
loop-preserved c =
    let l = c.loop in
    let mets = c.args.mets.now in
    let lt = c.loop-test.true in
    let left = c.args.count - (l.counter + 1) in
    l.invariant
    ∙ way_step mets (c.args.count - l.counter) left l.time l.back.items (omega (arith, lt))
    ∙ (λ i. way_to mets left (sym c.time_before-time.ensures i) ++ reverse (sym c.in_ok-push.ensures.items i))
