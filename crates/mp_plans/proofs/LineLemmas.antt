-- The first line of a text, and the lines behind it.
use Rattle.std.proofs.Common.{◌≡◌, refl, ap, ℕ, ◌+◌, ◌-◌, ◌<◌, ◌≤◌, ◌==◌, Bool, true, false, cond, [], ◌∷◌, take, drop, length, length-drop, one-add, arith}
use Rattle.std.proofs.lemmas.Bool.{eqb-true}
use Rattle.mp_text.specs.Lines.{Text, with_first_byte}
use Rattle.mp_plans.specs.Lines.{line_size, whole_lines}

-- the first line is what the text begins with, and the others are those of what follows it
abbrev pub IsCut : Text → Type 0
IsCut text = whole_lines text ≡ take (line_size text) text ∷ whole_lines (drop (line_size text) text)

cut_one : (byte : ℕ) (test : Bool) → (byte == 10) ≡ test → IsCut (byte ∷ [])
cut_one byte true h = let is = eqb-true byte 10 h in rw (h, is) refl
cut_one byte false h = rw h refl

cut_more : (byte next : ℕ) (text : Text) (test : Bool) → (byte == 10) ≡ test → IsCut (next ∷ text) → IsCut (byte ∷ next ∷ text)
cut_more byte next text true h others = let is = eqb-true byte 10 h in rw (h, is) refl
cut_more byte next text false h others = simp (h, one-add) (ap (with_first_byte byte) (simp one-add at others))

cut : (byte : ℕ) (text : Text) → IsCut (byte ∷ text)
cut byte [] = cut_one byte (byte == 10) refl
cut byte (next ∷ text) = cut_more byte next text (byte == 10) refl (cut next text)

cut_of : (text : Text) → false ≡ (length text == 0) → IsCut text
cut_of [] h = absurd (cc)
cut_of (byte ∷ text) h = cut byte text

-- a text that is cut behind its first line
pub lines_cut : (text line rest : Text) (size : ℕ) → false ≡ (length text == 0)
    → size ≡ line_size text → line ≡ take size text → rest ≡ drop size text
    → whole_lines text ≡ line ∷ whole_lines rest
lines_cut text line rest size some is front back = rw (front, back, is) (cut_of text some)

some_size : (byte : ℕ) (text : Text) → 1 ≤ line_size (byte ∷ text)
some_size byte text = by (byte == 10)
  where
    by : (test : Bool) → 1 ≤ cond test 1 (1 + line_size text)
    by true = omega arith
    by false = omega arith

shorter : (size : ℕ) (text : Text) → 1 ≤ size → 1 ≤ length text → length (drop size text) < length text
shorter size text some filled = let less = length-drop size text in omega arith

-- what follows the first line is shorter
pub rest_shorter : (text rest : Text) (size : ℕ) → false ≡ (length text == 0)
    → size ≡ line_size text → rest ≡ drop size text → length rest < length text
rest_shorter [] rest size some is back = absurd (cc)
rest_shorter (byte ∷ text) rest size some is back =
    rw (back, is) (shorter (line_size (byte ∷ text)) (byte ∷ text) (some_size byte text) (omega arith))
