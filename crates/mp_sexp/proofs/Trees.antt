-- A tree that is made of a list of trees, as a value.
use Rattle.std.proofs.Common.{◌≡◌, List, [], ◌∷◌, refl, ap, ◌∙◌}
use Rattle.std.specs.Global.{Vec}
use Rattle.mp_sexp.specs.declared.tree.Place.{Place}
use Rattle.mp_sexp.specs.declared.tree.Tree.{Tree, Row_of-Tree, end_of-Tree, more_of-Tree, items-the_row-Tree, items_hidden-the_row-Tree-0, List as tree_list}
use Rattle.mp_sexp.specs.declared.tree.Tree.TheBlock.{hidden-the_row-Tree-0}
use Rattle.mp_sexp.specs.Node.{Node, Nodes, more, list, node_of, nodes_of, nodes_from, nodes_in, node_list}

pub nodes_of-row : {n : _} (k : Row_of-Tree n) → nodes_of k ≡ nodes_from (nodes_in (items-the_row-Tree n k))
nodes_of-row end_of-Tree = refl
nodes_of-row (more_of-Tree tree rest) = ap (more (node_of tree)) (nodes_of-row rest)

pub node_of-list : (items : Vec Tree) (place : Place) → node_of (tree_list record { items = items } place) ≡ list (nodes_from (nodes_in items.items)) place
node_of-list items place =
    ap (λ (ns : Nodes). list ns place)
    (nodes_of-row (hidden-the_row-Tree-0 items) ∙ ap (λ (ts : List Tree). nodes_from (nodes_in ts)) (items_hidden-the_row-Tree-0 items))

pub node_list-from : (ns : List Node) → node_list (nodes_from ns) ≡ ns
node_list-from [] = refl
node_list-from (n ∷ ns) = ap (λ (ms : List Node). n ∷ ms) (node_list-from ns)
