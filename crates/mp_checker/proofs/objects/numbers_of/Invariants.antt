use Rattle.std.proofs.Common.{◌≡◌, Bor, map, take}
use Rattle.mp_joint.specs.Fact.{Text}
use Rattle.mp_checker.specs.Numbering.{object_number}
use Rattle.mp_lifting.specs.Privates.{private_in}
use Rattle.mp_checker.proofs.objects.numbers_of.Given as goal

abbrev pub invariant-loop-object : goal.invariant-loop-object
invariant-loop-object l =
    l.made ≡ map (λ (n : Bor Text). object_number l.names (private_in l.privates) n.now) (take l.object-index l.objects)
