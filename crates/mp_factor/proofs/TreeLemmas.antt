-- A tree that is made of a list of trees, as a value.
use Rattle.mp_factor.proofs.Basics.{◌≡◌, ap, ◌∙◌, Vec, Place, Tree, node_of, nodes_in, node_of-list, parts}
use Rattle.mp_sexp.specs.declared.tree.Tree.{List as tree_list}
use Rattle.mp_sexp.proofs.Trees.{node_list-from}

pub parts-list : (tree : Tree) (items : Vec Tree) (place : Place) → tree ≡ tree_list record { items = items } place → parts (node_of tree) ≡ nodes_in items.items
parts-list tree items place is =
    ap (λ (t : Tree). parts (node_of t)) is ∙ ap parts (node_of-list items place) ∙ node_list-from (nodes_in items.items)
