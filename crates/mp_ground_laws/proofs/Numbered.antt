-- Names by their numbers, in lists of names of which none comes twice.
use Rattle.mp_ground_laws.proofs.Basics.{arith, ◌≡◌, ℕ, zero, suc, ◌<◌, true, false, List, [], ◌∷◌, map, length, All, refl, sym, ap, ◌∙◌, subst, bytes_eq-Decides}
use Rattle.mp_ground_laws.proofs.Basics.{bytes_eq, is_named, name_at, number_in, name_at_number, Text}
use Rattle.std.proofs.lemmas.Bool.{both_ways}
use Rattle.std.proofs.lemmas.List.Folds.{list_any_at, map_fixed}
use Rattle.std.proofs.lemmas.Simd.{map-map}
use Rattle.mp_sexp.proofs.NamesAt.{number_below}
use Rattle.mp_ground_laws.proofs.Distinct.{AreDistinct}

-- a number of a name in a list
abbrev pub IsPlace : List Text → ℕ → Type 0
IsPlace names n = n < length names

pub named_at : (names : List Text) (n : ℕ) → n < length names → is_named names (name_at names n) ≡ true
named_at names n less = list_any_at (bytes_eq (name_at names n)) names n [] less ((bytes_eq-Decides (name_at names n) (name_at names n)).1 refl)

-- a name that stands nowhere else
absent : (name : Text) (names : List Text) (n : ℕ) → is_named names name ≡ false → n < length names → name ≡ name_at names n → ⊥
absent name names n none less e = both_ways _ none (subst (λ m. is_named names m ≡ true) (sym e) (named_at names n less))

-- the same name stands at one place alone
pub one_place : (names : List Text) (m n : ℕ) → AreDistinct names → m < length names → n < length names → name_at names m ≡ name_at names n → m ≡ n
one_place [] m n once first second e = absurd (omega arith)
one_place (x ∷ xs) zero zero once first second e = refl
one_place (x ∷ xs) zero (suc n) once first second e = absurd (absent x xs n once.0 (omega arith) e)
one_place (x ∷ xs) (suc m) zero once first second e = absurd (absent x xs m once.0 (omega arith) (sym e))
one_place (x ∷ xs) (suc m) (suc n) once first second e = ap suc (one_place xs m n once.1 (omega arith) (omega arith) e)

-- the number of the name at a place is the place
pub number_at : (names : List Text) (n : ℕ) → AreDistinct names → n < length names → number_in names (name_at names n) ≡ n
number_at names n once less =
    let there = named_at names n less in
    one_place names (number_in names (name_at names n)) n once (number_below names _ there) less (name_at_number names _ there)

pub numbers_again : (names : List Text) (ns : List ℕ) → AreDistinct names → All (IsPlace names) ns → map (number_in names) (map (name_at names) ns) ≡ ns
numbers_again names ns once h =
    map-map (number_in names) (name_at names) ns ∙ map_fixed _ ns (λ k d less. number_at names _ once (h k d less))
