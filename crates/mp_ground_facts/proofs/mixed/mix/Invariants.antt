use Rattle.mp_ground_facts.proofs.Basics.{◌≡◌, drop}
use Rattle.mp_ground_facts.specs.Mixed.{mixed, mixed_with_all}
use Rattle.mp_ground_facts.proofs.mixed.mix.Given as goal

abbrev pub invariant-loop-object : goal.invariant-loop-object
invariant-loop-object l =
    mixed_with_all l.number (drop l.object-index l.objects)
    ≡ mixed l.is_public l.is_complement l.predicate l.objects
