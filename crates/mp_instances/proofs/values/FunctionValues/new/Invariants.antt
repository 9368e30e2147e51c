use Rattle.mp_instances.proofs.Basics.{take, HasValues}
use Rattle.mp_instances.proofs.values.FunctionValues.new.Given as goal

abbrev pub invariant-loop-value : goal.invariant-loop-value
invariant-loop-value l = HasValues l.first.entries (take l.value-index l.values)
