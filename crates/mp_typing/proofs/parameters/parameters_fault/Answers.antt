use Rattle.mp_typing.proofs.Basics.{◌+◌}
use Rattle.std.proofs.lemmas.List.{take_rest}
use Rattle.mp_typing.proofs.ParameterLemmas.{goes_on, ends}
use Rattle.mp_typing.proofs.parameters.parameters_fault.Goals as goal

pub loop-i-preserved : goal.loop-i-preserved
loop-i-preserved c =
    goes_on _ _ _ c.args.params.now c.loop-i.i c.index-params-i.result _
    c.loop-i-test.true c.index-params-i.is (take_rest c.args.params.now (c.loop-i.i + 1)) c.in_ok-first.ensures c.loop-i.invariant

pub returns : goal.returns
returns c =
    ends _ _ c.args.params.now c.loop-i.i c.loop-i-test.false c.loop-i.invariant
