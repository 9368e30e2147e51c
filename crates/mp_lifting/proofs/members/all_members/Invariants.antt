use Rattle.mp_lifting.proofs.Basics.{◌≡◌, map, take}
use Rattle.mp_lifting.specs.Lifting.{members_of}
use Rattle.mp_lifting.proofs.members.all_members.Given as goal

abbrev pub invariant-loop-param : goal.invariant-loop-param
invariant-loop-param l = l.made ≡ map (members_of l.factor) (take l.param-index l.params)
