use Rattle.std.proofs.Common.{◌≡◌, drop}
use Rattle.mp_estimates.specs.Lowering.{value_at}
use Rattle.mp_lmcut.specs.Cut.{all_valued}
use Rattle.mp_lmcut.proofs.supports.are_valued.Given as goal

abbrev pub invariant-loop-x : goal.invariant-loop-x
invariant-loop-x l = all_valued (value_at l.numbers) (drop l.x-index l.facts) ≡ all_valued (value_at l.numbers) l.facts
