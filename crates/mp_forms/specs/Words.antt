-- Bytes of names, and the words that PDDL keeps for itself.
use Rattle.std.specs.Prelude.{ℕ, ◌==◌, ◌||◌, ◌&&◌, nat_le, Bool, false, List, [], ◌∷◌, codes}
use Rattle.std.specs.List.{list_any}
use Rattle.std.specs.Str.{bytes_eq}

abbrev pub is_letter : ℕ → Bool
is_letter b = nat_le 97 b && nat_le b 122

abbrev pub is_digit : ℕ → Bool
is_digit b = nat_le 48 b && nat_le b 57

-- letters, digits, `-` and `_`
abbrev pub is_name_byte : ℕ → Bool
is_name_byte b = is_letter b || is_digit b || b == 45 || b == 95

abbrev pub is_among : List (List ℕ) → List ℕ → Bool
is_among words w = list_any (λ v. bytes_eq v w) words

abbrev pub begins_with_letter : List ℕ → Bool
begins_with_letter [] = false
begins_with_letter (b ∷ bs) = is_letter b

-- words that have a meaning of their own, in conditions
unfoldable pub connectives : List (List ℕ)
connectives = codes "and" ∷ codes "or" ∷ codes "not" ∷ codes "imply" ∷ codes "when" ∷ codes "=" ∷ []

unfoldable pub quantifiers : List (List ℕ)
quantifiers = codes "forall" ∷ codes "exists" ∷ codes "either" ∷ []

-- and in effects
unfoldable pub assignments : List (List ℕ)
assignments = codes "increase" ∷ codes "decrease" ∷ codes "assign" ∷ codes "scale-up" ∷ codes "scale-down" ∷ []

-- and elsewhere
unfoldable pub other_words : List (List ℕ)
other_words = codes "define" ∷ codes "minimize" ∷ codes "number" ∷ codes "object" ∷ codes "total-cost" ∷ []

unfoldable pub is_fixed : List ℕ → Bool
is_fixed w = is_among connectives w || is_among quantifiers w || is_among assignments w || is_among other_words w
