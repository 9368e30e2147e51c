use Rattle.std.proofs.Common.{◌≡◌, map, take}
use Rattle.mp_checker.specs.Numbering.{amount}
use Rattle.mp_lifting.specs.Privates.{private_in}
use Rattle.mp_checker.proofs.actions.increases_of.Given as goal

abbrev pub invariant-loop-increase : goal.invariant-loop-increase
invariant-loop-increase l = l.made ≡ map (amount l.names (private_in l.privates) l.params) (take l.increase-index l.increases)
