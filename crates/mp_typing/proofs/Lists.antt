-- Names that stand in lists.
use Rattle.mp_typing.proofs.Basics.{◌≡◌, ℕ, Bool, true, false, ◌||◌, List, refl, ap, ◌∙◌, Contains, bytes_eq, bytes_eq-Decides, from_map, to_map, Word, names_of, is_among, has_any}
use Rattle.std.proofs.lemmas.Map.Views.{Contains-from_any}
use Rattle.mp_list.proofs.Members.{any_from, some_member}

-- a word whose name stands in a list, where there is one
pub some_name : (names : List (List ℕ)) (words : List Word) → has_any names words ≡ true
    → (name : List ℕ) × Contains (names_of words) name × (is_among names name ≡ true)
some_name names words h =
    let (w, there, is) = some_member (λ (v : Word). is_among names v.name) words h in (w.name, to_map (λ (v : Word). v.name) words w there, is)

-- and the way back
pub any_from_name : (names : List (List ℕ)) (words : List Word) (name : List ℕ) → Contains (names_of words) name → is_among names name ≡ true → has_any names words ≡ true
any_from_name names words name found h =
    let (w, there, is) = from_map (λ (v : Word). v.name) words name found in any_from (λ (v : Word). is_among names v.name) words w there (ap (is_among names) is ∙ h)

-- what stands in a list of names is a member of it
pub among_from_contains : (names : List (List ℕ)) (name : List ℕ) → Contains names name → is_among names name ≡ true
among_from_contains names name found = any_from (bytes_eq name) names name found ((bytes_eq-Decides name name).1 refl)

-- and the way back
pub contains_from_among : (names : List (List ℕ)) (name : List ℕ) → is_among names name ≡ true → Contains names name
contains_from_among names name = Contains-from_any (λ a b. (bytes_eq-Decides a b).0) name names

pub swaps : (a b : Bool) → (a || b) ≡ (b || (a || false))
swaps true true = refl
swaps true false = refl
swaps false true = refl
swaps false false = refl
