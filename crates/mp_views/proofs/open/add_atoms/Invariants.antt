use Rattle.mp_views.proofs.Basics.{◌≡◌, ◌++◌, take, not, filter, is_listed, predicates_of}
use Rattle.mp_views.proofs.open.add_atoms.Given as goal

abbrev pub invariant-loop-atom : goal.invariant-loop-atom
invariant-loop-atom l =
    l.out.items ≡ l.fn.out.items ++ filter (λ n. not (is_listed n l.privates)) (predicates_of (take l.atom-index l.atoms))
