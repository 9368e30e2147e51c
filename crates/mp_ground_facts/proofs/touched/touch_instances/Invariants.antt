use Rattle.mp_ground_facts.proofs.Basics.{◌≡◌, drop, insert_all, same_fact}
use Rattle.std.specs.List.{flat_map}
use Rattle.mp_ground_facts.specs.Touched.{of_action, touched}
use Rattle.mp_ground_facts.proofs.touched.touch_instances.Given as goal

abbrev pub invariant-loop-at : goal.invariant-loop-at
invariant-loop-at l =
    insert_all same_fact l.met (flat_map (of_action l.factor touched) (drop l.at l.instances))
    ≡ insert_all same_fact l.initial.met (flat_map (of_action l.factor touched) l.instances)
