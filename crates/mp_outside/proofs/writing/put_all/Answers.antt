use Rattle.std.proofs.Common.{rules}
use Rattle.mp_outside.proofs.Known.{begun_all}
use Rattle.mp_outside.proofs.writing.put_all.Goals as goal

pub returns-in_err-put-clause-err : goal.returns-in_err-put-clause-err
returns-in_err-put-clause-err g c =
    let h = begun_all _ _ _ c.args.texts.now c.loop-text.text-index _ c.loop-text-test.true c.loop-text.invariant.grew c.in_err-put.ensures.err in
    search rules
