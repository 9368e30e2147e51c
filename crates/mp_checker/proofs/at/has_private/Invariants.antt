use Rattle.std.proofs.Common.{◌≡◌, drop}
use Rattle.std.specs.List.{list_any}
use Rattle.mp_checker.specs.declared.numbered.TermNumber.{TermNumber}
use Rattle.mp_checker.specs.At.{object_at}
use Rattle.mp_checker.proofs.at.has_private.Given as goal

abbrev pub invariant-loop-term : goal.invariant-loop-term
invariant-loop-term l =
    list_any (λ (t : TermNumber). (object_at l.args t).private) (drop l.term-index l.terms)
    ≡ list_any (λ (t : TermNumber). (object_at l.args t).private) l.terms
