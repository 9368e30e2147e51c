-- How the search for `--one` goes from one word to the next.
use Rattle.std.proofs.Common.{◌≡◌, ℕ, suc, ◌+◌, ◌<◌, ◌≤◌, Bool, List, ◌∷◌, length, get_or, drop, true, false, Some, None, refl, ap, sym, ◌∙◌, add-one, drop-cons}
use Rattle.std.proofs.Math.Numerals.{one-add}
use Rattle.std.proofs.lemmas.List.{drop_all}
use Rattle.std.specs.Prelude.{codes}
use Rattle.std.specs.Str.{bytes_eq}
use Rattle.std.specs.Prelude.{option_and_then, if◌then◌else◌}
use Rattle.mp_words.specs.Asked.{Asked}
use Rattle.mp_words.specs.Words.{after_word, after_words}
use Rattle.mp_words.specs.Requests.{stands_before_dashes}

-- the items from a place on are the item there and those after it
pub drop_here : {A : Type 0} (items : List A) (i : ℕ) (item : A) → i < length items → item ≡ get_or items i item → drop i items ≡ item ∷ drop (i + 1) items
drop_here items i item within is = rw (add-one, drop-cons items i item within) (ap (λ x. x ∷ drop (suc i) items) (sym is))

-- the same where the item is said by its place
pub drop_at : {A : Type 0} (items : List A) (i : ℕ) (other : A) → i < length items → drop i items ≡ get_or items i other ∷ drop (i + 1) items
drop_at items i other within = rw add-one (drop-cons items i other within)

-- a word that is neither `--` nor `--one` changes nothing
pub passes_by : (word : List ℕ) (words : List (List ℕ)) → bytes_eq word (codes "--") ≡ false → bytes_eq word (codes "--one") ≡ false → stands_before_dashes (word ∷ words) ≡ stands_before_dashes words
passes_by word words dashes one = simp (dashes, one-add) (rw one refl)

-- `--one` is found where it stands first
pub found_first : (word : List ℕ) (words : List (List ℕ)) → bytes_eq word (codes "--") ≡ false → bytes_eq word (codes "--one") ≡ true → stands_before_dashes (word ∷ words) ≡ true
found_first word words dashes one = simp (dashes, one-add) (rw one refl)

-- one word more, and then the others
after_more : (a : Asked) (word : List ℕ) (words : List (List ℕ)) → after_words a (word ∷ words) ≡ option_and_then (λ next. after_words next words) (after_word a word)
unfolding after_words
after_more a word words = refl

-- a word that is accepted leads on, and one that is not ends all
pub goes_on : (a b : Asked) (word : List ℕ) (words : List (List ℕ)) (accepted : Bool) → accepted ≡ true → (if accepted then Some b else None) ≡ after_word a word → after_words a (word ∷ words) ≡ after_words b words
goes_on a b word words true is e = after_more a word words ∙ ap (option_and_then (λ next. after_words next words)) (sym e)
goes_on a b word words false is e = absurd (cc)

pub ends_all : (a b : Asked) (word : List ℕ) (words : List (List ℕ)) (accepted : Bool) → accepted ≡ false → (if accepted then Some b else None) ≡ after_word a word → after_words a (word ∷ words) ≡ None
ends_all a b word words false is e = after_more a word words ∙ ap (option_and_then (λ next. after_words next words)) (sym e)
ends_all a b word words true is e = absurd (cc)

-- nothing more is asked for behind the last word
pub no_more_words : (a : Asked) (words : List (List ℕ)) (i : ℕ) → length words ≤ i → after_words a (drop i words) ≡ Some a
unfolding after_words
no_more_words a words i all = rw (drop_all i words all) refl
