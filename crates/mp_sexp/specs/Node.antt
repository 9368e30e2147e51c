-- A tree as a value: what it says, without where it lies in memory.
use Rattle.std.specs.Prelude.{ℕ, ◌+◌, max, List, [], ◌∷◌, map}
use Rattle.mp_sexp.specs.declared.tree.Place.{Place}
use Rattle.mp_sexp.specs.declared.tree.Tree.{Tree, Word, List', Row_of-Tree, end_of-Tree, more_of-Tree}

mutual
  -- a word, folded, or a list in brackets, each with its place
  pub data Node : Type 0 where
    word : List ℕ → Place → Node
    list : Nodes → Place → Node

  -- the members of a list, in order
  pub data Nodes : Type 0 where
    none : Nodes
    more : Node → Nodes → Nodes

abbrev mutual
  pub node_of : Tree → Node
  node_of (Word name place) = word name place
  node_of (List' shape members place) = list (nodes_of members) place

  pub nodes_of : {n : _} → Row_of-Tree n → Nodes
  nodes_of end_of-Tree = none
  nodes_of (more_of-Tree tree rest) = more (node_of tree) (nodes_of rest)

-- nodes in a row, as the members of a list
abbrev pub nodes_from : List Node → Nodes
nodes_from [] = none
nodes_from (n ∷ ns) = more n (nodes_from ns)

-- what these trees are as values
abbrev pub nodes_in : List Tree → List Node
nodes_in trees = map node_of trees

abbrev mutual
  -- how many brackets stand open at the deepest place
  pub depth : Node → ℕ
  depth (word name place) = 0
  depth (list nodes place) = depth_of_all nodes + 1

  pub depth_of_all : Nodes → ℕ
  depth_of_all none = 0
  depth_of_all (more node nodes) = max (depth node) (depth_of_all nodes)

-- the members of a list, in order
abbrev pub node_list : Nodes → List Node
node_list none = []
node_list (more node nodes) = node ∷ node_list nodes
