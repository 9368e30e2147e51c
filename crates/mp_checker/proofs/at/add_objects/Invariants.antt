use Rattle.std.proofs.Common.{◌≡◌, ◌++◌, map, take}
use Rattle.mp_checker.specs.declared.numbered.TermNumber.{TermNumber}
use Rattle.mp_checker.specs.At.{object_at}
use Rattle.mp_checker.proofs.at.add_objects.Given as goal

abbrev pub invariant-loop-term : goal.invariant-loop-term
invariant-loop-term l =
    l.out.items ≡ l.fn.out.items ++ map (λ (t : TermNumber). (object_at l.args t).number) (take l.term-index l.terms)
