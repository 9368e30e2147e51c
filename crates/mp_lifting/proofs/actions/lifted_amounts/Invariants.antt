use Rattle.mp_lifting.proofs.Basics.{◌≡◌, map, take}
use Rattle.mp_lifting.specs.Lifting.{lifted_amount}
use Rattle.mp_lifting.proofs.actions.lifted_amounts.Given as goal

abbrev pub invariant-loop-increase : goal.invariant-loop-increase
invariant-loop-increase l = l.made ≡ map (lifted_amount l.vocabulary l.params) (take l.increase-index l.increases)
