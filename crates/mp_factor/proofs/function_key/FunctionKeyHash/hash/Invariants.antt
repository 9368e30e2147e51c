use Rattle.mp_factor.proofs.Basics.{◌≡◌, map, take, nodes_in}
use Rattle.std.specs.List.{fold}
use Rattle.mp_forms.specs.Parts.{word_of}
use Rattle.mp_factor.proofs.function_key.FunctionKeyHash.hash.Given as goal

abbrev pub invariant-loop-tree : goal.invariant-loop-tree
invariant-loop-tree g l = l.state ≡ fold g.H.Hasher.write l.fn.state (map word_of (nodes_in (take l.tree-index l.tree-items)))
