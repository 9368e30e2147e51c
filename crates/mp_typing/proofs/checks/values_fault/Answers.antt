use Rattle.mp_typing.specs.CheckFaults.{value_faults}
use Rattle.mp_typing.proofs.checks.values_fault.Goals as goal

pub returns : goal.returns
unfolding value_faults
returns c = c.each_fault.ensures
