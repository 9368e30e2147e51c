-- Reading a text from left to right, byte after byte. The reader comes to the same states, but takes whole words and
-- comments at once. What it is to find stands in `Spelling`, apart from this.
use Rattle.std.specs.Prelude.{ℕ, ◌≡◌, ◌+◌, ◌<◌, ◌≤◌, ◌==◌, ◌&&◌, nat_lt, Bool, not, List, [], ◌∷◌, ◌++◌, length, map, reverse, Result, Ok, Err, if◌then◌else◌}
use Rattle.mp_sexp.specs.declared.tree.Place.{Place}
use Rattle.mp_sexp.specs.declared.bytes.Kind.{Kind}
use Rattle.mp_sexp.specs.declared.bytes.Kind.TheVariants as kinds
use Rattle.mp_sexp.specs.Part.{Part}
use Rattle.mp_sexp.specs.Part as parts
use Rattle.mp_sexp.specs.declared.open_lists.OpenList.{OpenList}
use Rattle.mp_sexp.specs.declared.open_lists.Lists.{Lists}
use Rattle.mp_sexp.specs.declared.refusal.ReadRefusal.{ReadRefusal}
use Rattle.mp_sexp.specs.declared.refusal.ReadRefusal.TheVariants as refusals
use Rattle.mp_sexp.specs.Bytes.{folded_byte, line_feed}
use Rattle.mp_sexp.specs.Kinds.{kind_of, is_word_kind}
use Rattle.mp_sexp.specs.Node.{Node, word, list, nodes_from, nodes_in}
use Rattle.mp_sexp.specs.Spelling.{next_place, place_after, deepest}

-- a list that stands open around another: its members before that one, and where that one begins
pub record Level : Type 0 where
  pub members : List Node
  pub inner : Place

-- What is read of the list that is being read, and the lists around it, the nearest first.
pub record State : Type 0 where
  pub part : Part
  pub members : List Node
  pub around : List Level

abbrev pub start : State
start = record { part = parts.Gap; members = []; around = [] }

-- the members, with the word that ends here
abbrev pub ended : Part → List Node → List Node
ended parts.Gap members = members
ended parts.Comment members = members
ended (parts.Word name place) members = members ++ word name place ∷ []

-- the word with one more byte, or a new word
abbrev pub lengthened : Part → Place → ℕ → Part
lengthened parts.Gap at b = parts.Word (folded_byte b ∷ []) at
lengthened parts.Comment at b = parts.Word (folded_byte b ∷ []) at
lengthened (parts.Word name place) at b = parts.Word (name ++ folded_byte b ∷ []) place

infixl 10 ◌>>=◌
abbrev pub ◌>>=◌ : {A B : Type 0} → Result A ReadRefusal → (A → Result B ReadRefusal) → Result B ReadRefusal
(Ok x) >>= f = f x
(Err e) >>= f = Err e

abbrev pub opened : Place → List Node → List Level → Result State ReadRefusal
opened at members around =
    if (length around == 0) && nat_lt 0 (length members) then Err (refusals.Trailing at)
    else if nat_lt (length around) deepest then Ok (record { part = parts.Gap; members = []; around = record { members = members; inner = at } ∷ around })
    else Err (refusals.Deep at)

-- what is neither in brackets nor opens one, when these lists were read
abbrev pub misplaced : List Node → Place → ReadRefusal
misplaced [] at = refusals.Unbalanced at
misplaced (n ∷ ns) at = refusals.Trailing at

abbrev pub closed : Place → List Node → List Level → Result State ReadRefusal
closed at members [] = Err (misplaced members at)
closed at members (level ∷ around) =
    Ok (record { part = parts.Gap; members = level.members ++ list (nodes_from members) level.inner ∷ []; around = around })

abbrev pub spelled_on : State → Place → ℕ → Result State ReadRefusal
spelled_on s at b =
    if length s.around == 0 then Err (misplaced s.members at)
    else Ok (record { part = lengthened s.part at b; members = s.members; around = s.around })

-- a byte outside a comment
unfoldable pub read_byte : Kind → State → Place → ℕ → Result State ReadRefusal
read_byte kinds.Space s at b = Ok (record { part = parts.Gap; members = ended s.part s.members; around = s.around })
read_byte kinds.Comment s at b = Ok (record { part = parts.Comment; members = ended s.part s.members; around = s.around })
read_byte kinds.Open s at b = opened at (ended s.part s.members) s.around
read_byte kinds.Close s at b = closed at (ended s.part s.members) s.around
read_byte kinds.Word s at b = spelled_on s at b
read_byte kinds.Foreign s at b = Err (refusals.Char at)

-- a byte inside a comment
abbrev pub read_comment : State → ℕ → State
read_comment s b =
    record { part = if b == line_feed then parts.Gap else parts.Comment; members = s.members; around = s.around }

abbrev pub step_from : Part → State → Place → ℕ → Result State ReadRefusal
step_from parts.Comment s at b = Ok (read_comment s b)
step_from parts.Gap s at b = read_byte (kind_of b) s at b
step_from (parts.Word name place) s at b = read_byte (kind_of b) s at b

unfoldable pub step : State → Place → ℕ → Result State ReadRefusal
step s at b = step_from s.part s at b

abbrev pub single_list : Place → List Node → Result Node ReadRefusal
single_list at [] = Err (refusals.Unbalanced at)
single_list at (word name place ∷ ns) = Err (refusals.Unbalanced at)
single_list at (list nodes place ∷ []) = Ok (list nodes place)
single_list at (list nodes place ∷ n ∷ ns) = Err (refusals.Unbalanced at)

-- the one list that was read, at the end of the text
abbrev pub only_list : Place → List Node → List Level → Result Node ReadRefusal
only_list at members [] = single_list at members
only_list at members (level ∷ around) = Err (refusals.Unbalanced at)

abbrev pub finished : Place → State → Result Node ReadRefusal
finished at s = only_list at (ended s.part s.members) s.around

-- what the rest of a text leads to
unfoldable pub run : State → Place → List ℕ → Result Node ReadRefusal
run s at [] = finished at s
run s at (b ∷ bs) = do
  t ← step s at b
  run t (next_place at b) bs

-- what a text leads to
unfoldable pub node_at : List ℕ → Result Node ReadRefusal
node_at text = run start (place_after []) text

-- ---- what the reader holds, as values

abbrev pub level_of : OpenList → Level
level_of l = record { members = nodes_in l.members.items; inner = l.inner }

abbrev pub levels_in : List OpenList → List Level
levels_in lists = reverse (map level_of lists)

-- what is read between two words or brackets
abbrev pub state_of : Lists → State
state_of l = record { part = parts.Gap; members = nodes_in l.members.items; around = levels_in l.around.items }

-- a byte of a word
abbrev pub is_word : ℕ → Bool
is_word b = is_word_kind (kind_of b)

-- a byte that does not end a line
abbrev pub is_within_line : ℕ → Bool
is_within_line b = not (b == line_feed)

-- the place so many bytes further on in a line
abbrev pub further : Place → ℕ → Place
further at n = record { line = at.line; column = at.column + n }

-- What is read next of a text leads from this state, place and text to those.
pub record GoesOn (s : State) (at : Place) (text : List ℕ) (t : State) (next : Place) (rest : List ℕ) : Type 0 where
  pub same : run s at text ≡ run t next rest
  pub less : length rest < length text
  pub line : next.line + length rest ≤ at.line + length text
  pub column : next.column + length rest ≤ at.column + length text

-- What a function returned, seen by view, is what reading gives, unless memory ran out.
abbrev pub Fails : {Y : Type 0} → ReadRefusal → Result Y ReadRefusal → Type 0
Fails refusals.OutOfMemory read = Unit {0}
Fails (refusals.Char place) read = read ≡ Err (refusals.Char place)
Fails (refusals.Unbalanced place) read = read ≡ Err (refusals.Unbalanced place)
Fails (refusals.Trailing place) read = read ≡ Err (refusals.Trailing place)
Fails (refusals.Deep place) read = read ≡ Err (refusals.Deep place)

abbrev pub Gives : {X Y : Type 0} → (X → Y) → Result X ReadRefusal → Result Y ReadRefusal → Type 0
Gives view (Ok x) read = read ≡ Ok (view x)
Gives view (Err e) read = Fails e read
