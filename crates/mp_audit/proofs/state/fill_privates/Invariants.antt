use Rattle.std.proofs.Common.{◌≡◌, ◌++◌, drop, take}
use Rattle.mp_audit.specs.States.{sized_sets}
use Rattle.mp_audit.proofs.state.fill_privates.Given as goal

abbrev pub invariant-loop-place : goal.invariant-loop-place
invariant-loop-place l =
    l.sets.items ≡ take l.place (sized_sets l.tasks l.bound.privates) ++ drop l.place l.initial.sets.items
