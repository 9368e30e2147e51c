-- The first fault of a text, from its left. It is said of the beginning of the text before the fault alone,
-- by counting the brackets outside its comments.
use Rattle.std.specs.Prelude.{ℕ, ◌≡◌, ◌+◌, ◌<◌, ◌⊎◌, ◌==◌, Bool, true, false, List, [], ◌∷◌, ◌++◌, length, count_by, if◌then◌else◌}
use Rattle.mp_sexp.specs.declared.refusal.ReadRefusal.{ReadRefusal}
use Rattle.mp_sexp.specs.declared.refusal.ReadRefusal.TheVariants.{Char, Unbalanced, Trailing, Deep, OutOfMemory}
use Rattle.mp_sexp.specs.Bytes.{IsSpace, IsWordByte, open_bracket, close_bracket, semicolon, line_feed}
use Rattle.mp_sexp.specs.Spelling.{place_after, deepest}

abbrev mutual
  -- whether what follows this text would stand in a comment
  pub in_comment : List ℕ → Bool
  in_comment [] = false
  in_comment (b ∷ bs) = if b == semicolon then still_in_comment bs else in_comment bs

  pub still_in_comment : List ℕ → Bool
  still_in_comment [] = true
  still_in_comment (b ∷ bs) = if b == line_feed then in_comment bs else still_in_comment bs

abbrev mutual
  -- the bytes that stand outside comments
  pub outside : List ℕ → List ℕ
  outside [] = []
  outside (b ∷ bs) = if b == semicolon then behind_comment bs else b ∷ outside bs

  pub behind_comment : List ℕ → List ℕ
  behind_comment [] = []
  behind_comment (b ∷ bs) = if b == line_feed then outside bs else behind_comment bs

abbrev pub opening : List ℕ → ℕ
opening text = count_by (λ c. c == open_bracket) (outside text)

abbrev pub closing : List ℕ → ℕ
closing text = count_by (λ c. c == close_bracket) (outside text)

-- no list has begun in this beginning of a text
abbrev pub IsBefore : List ℕ → Type 0
IsBefore before = opening before ≡ 0

-- the list is closed in it
abbrev pub IsBehind : List ℕ → Type 0
IsBehind before = (0 < opening before) × (opening before ≡ closing before)

-- a word or a bracket, which stands outside comments
abbrev pub IsSolid : ℕ → Type 0
IsSolid b = IsWordByte b ⊎ (b ≡ open_bracket) ⊎ (b ≡ close_bracket)

-- none of the bytes that may stand outside comments
abbrev pub IsForeign : ℕ → Type 0
IsForeign b = (IsSpace b → ⊥) × (IsSolid b → ⊥) × (b ≡ semicolon → ⊥)

-- that a text is at fault behind this beginning, where it goes on so
abbrev pub IsFault : ReadRefusal → List ℕ → List ℕ → Type 0
IsFault OutOfMemory before rest = ⊥
IsFault (Char place) before [] = ⊥
IsFault (Char place) before (b ∷ bs) = (place ≡ place_after before) × (in_comment before ≡ false) × IsForeign b
IsFault (Unbalanced place) before [] = (place ≡ place_after before) × (IsBehind before → ⊥)
IsFault (Unbalanced place) before (b ∷ bs) =
    (place ≡ place_after before) × (in_comment before ≡ false) × IsBefore before × (IsWordByte b ⊎ (b ≡ close_bracket))
IsFault (Trailing place) before [] = ⊥
IsFault (Trailing place) before (b ∷ bs) = (place ≡ place_after before) × (in_comment before ≡ false) × IsBehind before × IsSolid b
IsFault (Deep place) before [] = ⊥
IsFault (Deep place) before (b ∷ bs) =
    (place ≡ place_after before) × (in_comment before ≡ false) × (b ≡ open_bracket) × (opening before ≡ closing before + deepest)

-- this is the text's first fault: none stands further left
abbrev pub ReadFault : List ℕ → ReadRefusal → Type 0
ReadFault text fault =
    (before rest : List ℕ) × (text ≡ before ++ rest) × IsFault fault before rest
    × ((shorter more : List ℕ) (other : ReadRefusal) → text ≡ shorter ++ more → length shorter < length before → IsFault other shorter more → ⊥)
