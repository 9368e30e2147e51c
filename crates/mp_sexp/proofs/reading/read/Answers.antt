use Rattle.mp_sexp.proofs.ReadLaws.{read_tree, read_found, read_fault, read_refused}
use Rattle.mp_sexp.proofs.reading.read.Goals as goal

pub returns-clause-tree : goal.returns-clause-tree
returns-clause-tree c = read_tree c.tree_at.result c.args.text.now c.tree_at.ensures

pub returns-clause-found : goal.returns-clause-found
returns-clause-found c = λ node has. read_found c.tree_at.result c.args.text.now node c.tree_at.ensures has

pub returns-clause-fault : goal.returns-clause-fault
returns-clause-fault c = read_fault c.tree_at.result c.args.text.now c.tree_at.ensures

pub returns-clause-refused : goal.returns-clause-refused
returns-clause-refused c = λ e fault. read_refused c.tree_at.result c.args.text.now e c.tree_at.ensures fault
