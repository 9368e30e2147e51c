-- What is written in a tree: its words, and the costs that they say.
use Rattle.std.specs.Prelude.{ℕ, ◌≡◌, List, [], ◌∷◌, ◌++◌, Some, Contains}
use Rattle.mp_sexp.specs.Node.{Node, Nodes, word, list, none, more}
use Rattle.mp_forms.specs.declared.word.Word.{Word}
use Rattle.mp_forms.specs.Numbers.{cost_of}

unfoldable mutual
  -- the words of a tree with their places, in reading order
  pub words_of : Node → List Word
  words_of (word name place) = record { name = name; at = place } ∷ []
  words_of (list nodes place) = words_of_all nodes

  -- those of these members, one after another
  pub words_of_all : Nodes → List Word
  words_of_all none = []
  words_of_all (more node nodes) = words_of node ++ words_of_all nodes

-- a word of the tree is a number that says this cost
abbrev pub IsWrittenCost : Node → ℕ → Type 0
IsWrittenCost node cost =
    (number : Word) × Contains (words_of node) number × (cost_of number.name ≡ Some cost)
