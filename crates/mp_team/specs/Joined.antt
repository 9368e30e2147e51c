-- The nodes of two works in one: where both have a node, that of the first.
use Rattle.std.specs.Prelude.{List, [], ◌∷◌, Option, Some, None}
use Rattle.mp_nodes.specs.Nodes.{SeenNode}

abbrev pub either_node : Option SeenNode → Option SeenNode → Option SeenNode
either_node (Some n) m = Some n
either_node None m = m

abbrev pub either_nodes : List (Option SeenNode) → List (Option SeenNode) → List (Option SeenNode)
either_nodes [] ms = []
either_nodes (n ∷ ns) [] = n ∷ ns
either_nodes (n ∷ ns) (m ∷ ms) = either_node n m ∷ either_nodes ns ms
