use Rattle.mp_sexp.proofs.ReadLaws.{one_tree, one_fault, not_both, either}
use Rattle.mp_sexp.proofs.reading.tree_or_fault.Goals as goal

pub returns-clause-one_tree : goal.returns-clause-one_tree
returns-clause-one_tree c = one_tree

pub returns-clause-one_fault : goal.returns-clause-one_fault
returns-clause-one_fault c = one_fault

pub returns-clause-not_both : goal.returns-clause-not_both
returns-clause-not_both c = not_both

pub returns-clause-either : goal.returns-clause-either
returns-clause-either c = either
