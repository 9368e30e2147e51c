-- Which tree a text spells (the brackets, words and comments of PDDL). A word's or list's place is a
-- function of the text before it, and a text is split as a whole: there is no stack and no position here.
use Rattle.std.specs.Prelude.{ℕ, ◌≡◌, ◌≤◌, ◌+◌, ◌⊎◌, ◌==◌, List, [], ◌∷◌, ◌++◌, length, if◌then◌else◌}
use Rattle.std.specs.Prelude.{All}
use Rattle.mp_sexp.specs.declared.tree.Place.{Place}
use Rattle.mp_sexp.specs.Bytes.{IsSpace, IsWordByte, folded, open_bracket, close_bracket, semicolon, line_feed}
use Rattle.mp_sexp.specs.Node.{Node, Nodes, word, list, none, more, depth}

-- the place after this byte, which stands at a place
abbrev pub next_place : Place → ℕ → Place
next_place at b =
    if b == line_feed then record { line = at.line + 1; column = 1 } else record { line = at.line; column = at.column + 1 }

-- the place after this text, when the text begins at a place
abbrev pub place_from : Place → List ℕ → Place
place_from at [] = at
place_from at (b ∷ bs) = place_from (next_place at b) bs

-- the place of the byte that stands after this beginning of a text
abbrev pub place_after : List ℕ → Place
place_after before = place_from record { line = 1; column = 1 } before

-- what may stand between words and brackets: spaces, and comments that their line feeds end
abbrev mutual
  pub IsGap : List ℕ → Type 0
  IsGap [] = Unit {0}
  IsGap (b ∷ bs) = (IsSpace b × IsGap bs) ⊎ ((b ≡ semicolon) × IsComment bs)

  -- the rest of a comment with its line feed, and then a gap
  pub IsComment : List ℕ → Type 0
  IsComment [] = ⊥
  IsComment (b ∷ bs) = ((b ≡ line_feed) × IsGap bs) ⊎ ((b ≡ line_feed → ⊥) × IsComment bs)

-- what may stand after the text's list: spaces and comments, of which the last may run to the end of the text
abbrev mutual
  pub IsTail : List ℕ → Type 0
  IsTail [] = Unit {0}
  IsTail (b ∷ bs) = (IsSpace b × IsTail bs) ⊎ ((b ≡ semicolon) × IsCommentTail bs)

  -- the rest of a comment, and what may follow it
  pub IsCommentTail : List ℕ → Type 0
  IsCommentTail [] = Unit {0}
  IsCommentTail (b ∷ bs) = ((b ≡ line_feed) × IsTail bs) ⊎ ((b ≡ line_feed → ⊥) × IsCommentTail bs)

-- a word is a longest run of its bytes: what follows it begins with another byte
abbrev pub EndsWord : Node → List ℕ → Type 0
EndsWord (word name place) [] = Unit {0}
EndsWord (word name place) (b ∷ bs) = IsWordByte b → ⊥
EndsWord (list nodes place) rest = Unit {0}

abbrev mutual
  -- the text that stands after this beginning spells the node
  pub Spells : List ℕ → List ℕ → Node → Type 0
  Spells before text (word name place) =
      (0 ≡ length text → ⊥) × All IsWordByte text × (name ≡ folded text) × (place ≡ place_after before)
  Spells before text (list nodes place) =
      (inner : List ℕ) × (text ≡ open_bracket ∷ inner ++ close_bracket ∷ []) × (place ≡ place_after before)
      × SpellsAll (before ++ open_bracket ∷ []) inner nodes

  -- the inside of a bracket spells its members
  pub SpellsAll : List ℕ → List ℕ → Nodes → Type 0
  SpellsAll before text none = IsGap text
  SpellsAll before text (more node nodes) =
      (gap body rest : List ℕ) × (text ≡ gap ++ body ++ rest) × IsGap gap × Spells (before ++ gap) body node
      × EndsWord node rest × SpellsAll (before ++ gap ++ body) rest nodes

-- a whole text spells one list
abbrev pub SpellsText : List ℕ → Node → Type 0
SpellsText text (word name place) = ⊥
SpellsText text (list nodes place) =
    (gap body tail : List ℕ) × (text ≡ gap ++ body ++ tail) × IsGap gap × Spells gap body (list nodes place) × IsTail tail

-- the deepest that brackets may stand in one another
abbrev pub deepest : ℕ
deepest = 100

-- the tree of a text
abbrev pub HasTree : List ℕ → Node → Type 0
HasTree text node = SpellsText text node × (depth node ≤ deepest)
