-- The first word of a text, and the words behind it.
use Rattle.std.proofs.Common.{◌≡◌, refl, sym, ap, ◌∙◌, ℕ, ◌-◌, ◌<◌, ◌≤◌, Bool, true, false, List, [], ◌∷◌, take, drop, length, one-add, arith}
use Rattle.std.specs.List.{onto_first, prefix_len, slice_split}
use Rattle.mp_text.specs.Lines.{Text}
use Rattle.mp_plans.specs.Names.{is_blank, is_within_word}

-- the words behind the blank that a text begins with
abbrev pub words_behind : Text → List Text
words_behind [] = []
words_behind (byte ∷ text) = slice_split is_blank text

abbrev IsCut : Text → Type 0
IsCut text =
    slice_split is_blank text
    ≡ take (prefix_len is_within_word text) text ∷ words_behind (drop (prefix_len is_within_word text) text)

cut_more : (byte : ℕ) (text : Text) (test : Bool) → is_blank byte ≡ test → IsCut text → IsCut (byte ∷ text)
cut_more byte text true h others = rw h refl
cut_more byte text false h others = simp (h, one-add) (ap (onto_first byte) others)

cut : (text : Text) → IsCut text
cut [] = refl
cut (byte ∷ text) = cut_more byte text (is_blank byte) refl (cut text)

take-whole : (text : Text) (size : ℕ) → size ≡ length text → take size text ≡ text
take-whole [] size h = rw h refl
take-whole (byte ∷ text) size h = rw h (ap (λ t. byte ∷ t) (take-whole text (length text) refl))

none_behind : (rest : Text) → length rest < 1 → words_behind rest ≡ []
none_behind [] h = refl
none_behind (byte ∷ rest) h = absurd (omega (arith, h))

some_behind : (rest : Text) → 1 ≤ length rest → words_behind rest ≡ slice_split is_blank (take (length rest - 1) (drop 1 rest))
some_behind [] h = absurd (omega (arith, h))
some_behind (byte ∷ rest) h = ap (slice_split is_blank) (sym (take-whole rest _ (omega arith)))

word_cut : (text word rest : Text) (size : ℕ) → size ≡ prefix_len is_within_word text
    → word ≡ take size text → rest ≡ drop size text → slice_split is_blank text ≡ word ∷ words_behind rest
word_cut text word rest size is front back = rw (front, back, is) (cut text)

pub last_word : (text word rest : Text) (size : ℕ) → size ≡ prefix_len is_within_word text
    → word ≡ take size text → rest ≡ drop size text → length rest < 1 → slice_split is_blank text ≡ word ∷ []
last_word text word rest size is front back few =
    word_cut text word rest size is front back ∙ ap (λ words. word ∷ words) (none_behind rest few)

pub one_word : (text word rest : Text) (size : ℕ) → size ≡ prefix_len is_within_word text
    → word ≡ take size text → rest ≡ drop size text → 1 ≤ length rest
    → slice_split is_blank text ≡ word ∷ slice_split is_blank (take (length rest - 1) (drop 1 rest))
one_word text word rest size is front back some =
    word_cut text word rest size is front back ∙ ap (λ words. word ∷ words) (some_behind rest some)
