-- Words and lists of a tree.
use Rattle.std.specs.Prelude.{ℕ, Bool, true, false, List, [], ◌∷◌}
use Rattle.std.specs.Str.{bytes_eq}
use Rattle.mp_sexp.specs.declared.tree.Place.{Place}
use Rattle.mp_sexp.specs.Node.{Node, word, list, node_list}
use Rattle.mp_forms.specs.Words.{is_fixed}
use Rattle.mp_forms.specs.Kinds.{is_name, is_variable}

abbrev pub place_of : Node → Place
place_of (word name place) = place
place_of (list nodes place) = place

-- a word's bytes; those of a list are none
abbrev pub word_of : Node → List ℕ
word_of (word name place) = name
word_of (list nodes place) = []

-- a list's members; those of a word are none
abbrev pub parts : Node → List Node
parts (word name place) = []
parts (list nodes place) = node_list nodes

-- the members behind the first one
abbrev pub rest_of : List Node → List Node
rest_of [] = []
rest_of (n ∷ ns) = ns

abbrev pub is_list : Node → Bool
is_list (word name place) = false
is_list (list nodes place) = true

-- the node is this word
abbrev pub is_word : List ℕ → Node → Bool
is_word keyword (word name place) = bytes_eq name keyword
is_word keyword (list nodes place) = false

abbrev pub begins_with : List ℕ → List Node → Bool
begins_with keyword [] = false
begins_with keyword (n ∷ ns) = is_word keyword n

-- a list that begins with this word
abbrev pub is_headed : List ℕ → Node → Bool
is_headed keyword node = begins_with keyword (parts node)

abbrev pub is_name_word : Node → Bool
is_name_word node = is_name (word_of node)

abbrev pub is_variable_word : Node → Bool
is_variable_word node = is_variable (word_of node)

-- a word with a meaning of its own
abbrev pub is_fixed_word : Node → Bool
is_fixed_word node = is_fixed (word_of node)
