-- The first of some trees and the others, as a pattern on a slice has them.
use Rattle.mp_factor.proofs.Basics.{◌≡◌, ◌<◌, ◌≤◌, ◌-◌, ℕ, List, [], ◌∷◌, length, get_or, take, drop, refl, arith, Tree, node_of, nodes_in}
use Rattle.std.proofs.lemmas.List.{take_all}

-- what stands behind this many trees
abbrev pub behind : ℕ → List Tree → List Tree
behind n trees = take (length trees - n) (drop n trees)

-- the first of some trees and the others
pub first_and_others : (trees : List Tree) (tree : Tree) → 1 ≤ length trees → tree ≡ get_or trees 0 tree
    → nodes_in trees ≡ node_of tree ∷ nodes_in (behind 1 trees)
first_and_others trees tree le is = grind (arith, take_all)

-- the first two of some trees and the others
pub two_and_others : (trees : List Tree) (one two : Tree) → 2 ≤ length trees → one ≡ get_or trees 0 one → two ≡ get_or trees 1 two
    → nodes_in trees ≡ node_of one ∷ node_of two ∷ nodes_in (behind 2 trees)
two_and_others trees one two le is is' = grind (arith, take_all)

pub no_nodes : (trees : List Tree) → length trees < 1 → nodes_in trees ≡ []
no_nodes [] lt = refl
no_nodes (t ∷ ts) lt = absurd (omega (arith, lt))
