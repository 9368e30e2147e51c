use Rattle.std.proofs.Common.{◌≡◌, eqb, take}
use Rattle.std.specs.List.{list_any}
use Rattle.mp_lmcut.specs.Sides.{lowered_at}
use Rattle.mp_lmcut.proofs.costs.lower_all.Given as goal

abbrev pub invariant-loop-i : goal.invariant-loop-i
invariant-loop-i l =
    l.problem ≡ record l.initial.problem { operators = lowered_at (λ k. list_any (λ j. eqb j k) (take l.i l.cut)) l.by l.initial.problem.operators }
