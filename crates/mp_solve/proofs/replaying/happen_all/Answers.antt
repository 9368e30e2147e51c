use Rattle.std.proofs.Common.{◌+◌, drop, take}
use Rattle.mp_solve.proofs.Happens.{parted, stops}
use Rattle.mp_solve.proofs.replaying.happen_all.Goals as goal

pub returns-in-Err-clause-refused : goal.returns-in-Err-clause-refused
returns-in-Err-clause-refused g c =
    let i = c.loop-line.line-index in
    let lines = c.args.lines.now in
    stops g.H.Heuristic.value c.args.world.now.limit c.args.world.now.tasks lines (take i lines) (drop (i + 1) lines)
    c.line-item.result c.loop-line.world (parted lines i c.line-item.result c.loop-line-test.true c.line-item.is)
    c.loop-line.invariant c.in-Err.refusal c.in-Err.ensures.refused
