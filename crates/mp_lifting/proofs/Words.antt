-- Words with a space between each two, the first one and those behind it.
use Rattle.mp_lifting.proofs.Basics.{◌≡◌, ℕ, ◌+◌, ◌-◌, ◌==◌, Bool, false, List, [], ◌∷◌, ◌++◌, length, take, drop, All, Some, None, sym, ap, ◌∙◌, append_assoc, arith, position, slice_split, take_all}
use Rattle.mp_lifting.proofs.Basics.{fails_before_first, Text}
use Rattle.std.proofs.Common.{length-drop}
use Rattle.std.proofs.lemmas.List.Splits.{slice_split_first, slice_split_none}
use Rattle.mp_lifted.proofs.Found.{found_at, found_within, found_nowhere}

abbrev pub is_space : ℕ → Bool
is_space b = b == 32

-- there is a space
pub first_word : (text : Text) (at : ℕ) → position is_space text ≡ Some at
    → slice_split is_space text ≡ take at text ∷ slice_split is_space (drop (at + 1) text)
first_word text at found =
    slice_split_first is_space text 0 (found_within is_space text at found)
    ∙ ap (λ (k : ℕ). take k text ∷ slice_split is_space (drop (k + 1) text)) (found_at is_space text at found)

-- and what stands behind it as it is cut
pub first_cut : (text : Text) (at : ℕ) → position is_space text ≡ Some at
    → slice_split is_space text ≡ take at text ∷ slice_split is_space (take (length text - (at + 1)) (drop (at + 1) text))
first_cut text at found =
    first_word text at found
    ∙ ap (λ (ws : Text). take at text ∷ slice_split is_space ws)
    (sym (take_all (length text - (at + 1)) (drop (at + 1) text) (omega (arith, length-drop (at + 1) text))))

-- there is none
pub one_word : (text : Text) → position is_space text ≡ None → slice_split is_space text ≡ text ∷ []
one_word text none =
    let end = found_nowhere is_space text none in
    let all : All (λ x. is_space x ≡ false) text = λ k d lt. fails_before_first is_space text k d (omega (arith, end, lt)) in
    slice_split_none is_space text all

-- words that were read, and those of what is left
pub one_more : (words : List Text) (word rest others : Text) (whole : List Text) → slice_split is_space rest ≡ word ∷ slice_split is_space others
    → words ++ slice_split is_space rest ≡ whole → (words ++ word ∷ []) ++ slice_split is_space others ≡ whole
one_more words word rest others whole next so_far =
    append_assoc words (word ∷ []) (slice_split is_space others) ∙ ap (λ (ws : List Text). words ++ ws) (sym next) ∙ so_far

pub last_one : (words : List Text) (rest : Text) (whole : List Text) → slice_split is_space rest ≡ rest ∷ []
    → words ++ slice_split is_space rest ≡ whole → words ++ rest ∷ [] ≡ whole
last_one words rest whole last so_far = ap (λ (ws : List Text). words ++ ws) (sym last) ∙ so_far
