use Rattle.mp_factor.proofs.Basics.{sym, ap, ◌∙◌, List, Tree, nodes_in}
use Rattle.mp_factor.proofs.TreeLemmas.{parts-list}
use Rattle.mp_factor.proofs.trees.members.Goals as goal

pub returns-in-List : goal.returns-in-List
returns-in-List c =
    ap (λ (ts : List Tree). nodes_in ts) c.as_slice.ensures.value ∙ sym (parts-list c.args.tree.now c.in-List.list.items c.in-List.field-1 c.in-List.is)
