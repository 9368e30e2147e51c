use Rattle.mp_sexp.proofs.Trees.{node_of-list}
use Rattle.mp_sexp.proofs.open_lists.list_tree.Goals as goal

pub returns : goal.returns
returns c = node_of-list c.args.members c.args.place
