use Rattle.mp_typing.proofs.Basics.{◌≡◌, [], take, drop, leftmost, parameter_faults}
use Rattle.mp_typing.proofs.parameters.parameters_fault.Given as goal

abbrev pub invariant-loop-i : goal.invariant-loop-i
invariant-loop-i l =
    leftmost l.first (parameter_faults (take l.i l.params) (drop l.i l.params)) ≡ leftmost l.fn.least (parameter_faults [] l.fn.params)
