use Rattle.std.proofs.Common.{◌≡◌}
use Rattle.mp_steps.specs.Levels.{Test, levels}
use Rattle.mp_steps.specs.Marks.{AreMet}
use Rattle.mp_steps.specs.Steps.{steps}
use Rattle.mp_steps.proofs.group.grouped.Given as goal

abbrev pub invariant-loop-place : goal.invariant-loop-place
invariant-loop-place l = (interfere : Test) → AreMet interfere l.mets → l.steps.items ≡ steps (levels interfere l.place) l.place
