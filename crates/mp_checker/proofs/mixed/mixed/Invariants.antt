use Rattle.std.proofs.Common.{◌≡◌, drop}
use Rattle.mp_checker.specs.Mixed.{mixed, mixed_with_all}
use Rattle.mp_checker.proofs.mixed.mixed.Given as goal

abbrev pub invariant-loop-object : goal.invariant-loop-object
invariant-loop-object l = mixed_with_all l.number (drop l.object-index l.objects) ≡ mixed l.fn.owner l.symbol l.objects
