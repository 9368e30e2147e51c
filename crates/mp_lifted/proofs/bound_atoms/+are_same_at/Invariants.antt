use Rattle.mp_lifted.proofs.Basics.{length}
use Rattle.mp_lifted.proofs.bound_atoms.+are_same_at.Given as goal

abbrev pub decreases-are_same_at : goal.decreases-are_same_at
decreases-are_same_at l = length l.terms.now
