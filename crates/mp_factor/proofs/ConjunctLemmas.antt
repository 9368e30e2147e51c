-- The conjuncts of a tree, by the members of its list, and what is said of each of them.
use Rattle.mp_factor.proofs.Basics.{◌≡◌, ◌<◌, ◌≤◌, true, false, List, [], ◌∷◌, ◌++◌, length, get_or, refl, ap, ◌∙◌, arith, codes, if◌then◌else◌, Vec, Place, Tree, Node, list, node_of, nodes_in}
use Rattle.mp_factor.proofs.Basics.{node_of-list, is_word, conjuncts, conjuncts_of_all}
use Rattle.std.proofs.Common.{flat_map}
use Rattle.std.specs.Prelude.{ℕ}
use Rattle.mp_sexp.specs.declared.tree.Tree.{Word as tree_word, List as tree_list}
use Rattle.mp_sexp.specs.Node.{nodes_from}
use Rattle.mp_factor.proofs.Steps.{first_and_others, behind}

of_all-from : (ns : List Node) → conjuncts_of_all (nodes_from ns) ≡ flat_map conjuncts ns
unfolding conjuncts conjuncts_of_all
of_all-from [] = refl
of_all-from (n ∷ ns) = ap (λ (cs : List Node). conjuncts n ++ cs) (of_all-from ns)

-- the conjuncts of a list with these members, at this place
abbrev of_members : Place → List Node → List Node
of_members place [] = []
of_members place (head ∷ rest) = if is_word (codes "and") head then flat_map conjuncts rest else list (nodes_from (head ∷ rest)) place ∷ []

members-from : (place : Place) (ns : List Node) → conjuncts (list (nodes_from ns) place) ≡ of_members place ns
unfolding conjuncts conjuncts_of_all
members-from place [] = refl
members-from place (n ∷ ns) = ap (λ (cs : List Node). (if is_word (codes "and") n then cs else list (nodes_from (n ∷ ns)) place ∷ [])) (of_all-from ns)

-- a tree whose list has these members
pub record IsListOf (tree : Tree) (items : Vec Tree) (place : Place) (trees : List Tree) : Type 0 where
  pub is : tree ≡ tree_list record { items = items } place
  pub members : trees ≡ items.items

of_list : (tree : Tree) (items : Vec Tree) (place : Place) (trees : List Tree) → IsListOf tree items place trees
    → conjuncts (node_of tree) ≡ of_members place (nodes_in trees)
of_list tree items place trees l = rw (l.is, node_of-list, l.members) (members-from place (nodes_in items.items))

nothing : (place : Place) (trees : List Tree) → length trees < 1 → of_members place (nodes_in trees) ≡ []
nothing place [] lt = refl
nothing place (t ∷ ts) lt = absurd (omega (arith, lt))

pub of_nothing : (tree : Tree) (items : Vec Tree) (place : Place) (trees : List Tree) → IsListOf tree items place trees
    → length trees < 1 → conjuncts (node_of tree) ≡ []
of_nothing tree items place trees l lt = of_list tree items place trees l ∙ nothing place trees lt

pub of_and : (tree : Tree) (items : Vec Tree) (place : Place) (trees : List Tree) → IsListOf tree items place trees
    → (head : Tree) → 1 ≤ length trees → head ≡ get_or trees 0 head → is_word (codes "and") (node_of head) ≡ true
    → conjuncts (node_of tree) ≡ flat_map conjuncts (nodes_in (behind 1 trees))
of_and tree items place trees l head le is word = rw (of_list tree items place trees l, first_and_others trees head le is, word) refl

-- this list as it stands
as_list : (tree : Tree) (items : Vec Tree) (place : Place) (trees : List Tree) → IsListOf tree items place trees
    → list (nodes_from (nodes_in trees)) place ≡ node_of tree
as_list tree items place trees l = rw (l.is, node_of-list, l.members) refl

pub of_other : (tree : Tree) (items : Vec Tree) (place : Place) (trees : List Tree) → IsListOf tree items place trees
    → (head : Tree) → 1 ≤ length trees → head ≡ get_or trees 0 head → is_word (codes "and") (node_of head) ≡ false
    → conjuncts (node_of tree) ≡ node_of tree ∷ []
of_other tree items place trees l head le is word =
    rw (of_list tree items place trees l, first_and_others trees head le is, word, ← as_list tree items place trees l, first_and_others trees head le is) refl

pub of_word : (tree : Tree) (name : List ℕ) (place : Place) → tree ≡ tree_word name place → conjuncts (node_of tree) ≡ node_of tree ∷ []
unfolding conjuncts conjuncts_of_all
of_word tree name place is = rw is refl
