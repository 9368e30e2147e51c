use Rattle.std.proofs.Common.{take}
use Rattle.mp_checker.specs.Costs.{HasValues}
use Rattle.mp_checker.proofs.values.kept_values.Given as goal

abbrev pub invariant-loop-value : goal.invariant-loop-value
invariant-loop-value l = HasValues l.names l.kept.entries (take l.value-index l.values)
