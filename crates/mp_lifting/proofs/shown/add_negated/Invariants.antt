use Rattle.mp_lifting.proofs.Basics.{◌≡◌, ◌++◌, take, negated_atoms, predicates_of}
use Rattle.mp_lifting.proofs.shown.add_negated.Given as goal

abbrev pub invariant-loop-literal : goal.invariant-loop-literal
invariant-loop-literal l = l.table ≡ l.fn.table ++ predicates_of (negated_atoms (take l.literal-index l.literals))
