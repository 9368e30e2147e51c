use Rattle.std.proofs.Common.{arith, rules}
use Rattle.std.proofs.lemmas.Grind.{common_steps}
use Rattle.mp_outside.proofs.Known.{grows, grows_begun}
use Rattle.mp_outside.proofs.writing.put.Goals as goal

pub returns-in_err-done-clause-err : goal.returns-in_err-done-clause-err
returns-in_err-done-clause-err g c =
    let h = grows_begun _ _ _ c.args.text.now c.loop-done.done c.loop-done.invariant.grew c.in_err-done.ensures.err in
    search rules

pub loop-done-preserved : goal.loop-done-preserved
loop-done-preserved g c = record {
  within = grind (arith, common_steps);
  grew = grows _ _ _ c.args.text.now c.loop-done.done c.in_ok-done.field-0 c.loop-done.invariant.grew c.in_ok-done.ensures.ok;
  no_fault = cc (c.in_ok-done.ensures.no_fault);
}
