use Rattle.mp_views.proofs.Basics.{◌≡◌, ◌++◌, take, not, filter, is_listed, negated_atoms, predicates_of}
use Rattle.mp_views.proofs.open.add_negated.Given as goal

abbrev pub invariant-loop-literal : goal.invariant-loop-literal
invariant-loop-literal l =
    l.out.items ≡ l.fn.out.items
    ++ filter (λ n. not (is_listed n l.privates)) (predicates_of (negated_atoms (take l.literal-index l.literals)))
