use Rattle.std.proofs.Common.{Contains}
use Rattle.std.specs.Prelude.{IfSome}
use Rattle.mp_applicable.proofs.building.rarest.Given as goal

abbrev pub invariant-loop-fact : goal.invariant-loop-fact
invariant-loop-fact l = IfSome l.rarest (λ used. Contains l.facts used.fact)
