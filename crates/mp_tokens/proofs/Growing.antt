-- How a table grows: by a set that was met, and by the use of a set.
use Rattle.std.proofs.Common.{◌≡◌, ℕ, suc, ◌+◌, ◌<◌, ◌^◌, Bool, true, false, cond, not, ◌||◌, eqb, ltb, List, [], ◌∷◌, ◌++◌, length, get_or, All, Option, Some, None, refl, sym, ap, ◌∙◌, arith}
use Rattle.std.specs.Prelude.{IfNone, IfSome}
use Rattle.std.specs.List.{position_or_len, list_any}
use Rattle.std.specs.FinSet as set
use Rattle.std.specs.Simd.Lanes.{digits_l}
use Rattle.std.proofs.lemmas.Bool.{lt-ltb}
use Rattle.std.proofs.lemmas.Bool.Decides.{nat_tests}
use Rattle.std.proofs.lemmas.List.{get_or-map, length-map, map-append}
use Rattle.std.proofs.lemmas.List.Elements.{All-append, All-from_recursion}
use Rattle.indexmap.specs.IndexSet.{insert_key}
use Rattle.mp_rows.specs.Apart.{IsNew}
use Rattle.mp_rows.proofs.RowLemmas.{once_more}
use Rattle.mp_sets.specs.Compared.{binary}
use Rattle.mp_sets.specs.Numbers.{Numbers, SizedSet, numbers_below}
use Rattle.mp_sets.specs.Words.{has_bit, words_for}
use Rattle.mp_sets.proofs.ComparedLemmas.{digits_l-packed}
use Rattle.mp_tokens.specs.Order.{with_set, place, AreDifferent}
use Rattle.mp_tokens.specs.SetRows.{sets_of, AreSetRows, IsSetRow}
use Rattle.mp_tokens.specs.TokenFields.{sets_at}
use Rattle.mp_tokens.proofs.Places.{sets_at_push, place_by_index}

-- whether there is one, and which is the first
longer : (a b : ℕ) → ltb a b ≡ ltb (1 + a) (suc b)
longer a b = grind (arith, nat_tests)

pub first_there : {X : Type 0} (p : X → Bool) (xs : List X) → list_any p xs ≡ ltb (position_or_len p xs) (length xs)
first_there p [] = refl
first_there {X} p (x ∷ xs) = by (p x) refl (first_there p xs)
  where
    by : (b : Bool) → p x ≡ b → list_any p xs ≡ ltb (position_or_len p xs) (length xs) → (p x || list_any p xs) ≡ ltb (cond (not (p x)) (1 + position_or_len p xs) 0) (suc (length xs))
    by true e others = rw e (sym (lt-ltb 0 (suc (length xs)) (omega arith)))
    by false e others = rw e (others ∙ longer (position_or_len p xs) (length xs))

-- ---- sets of one size as rows of their words

pub sets_long : (size : ℕ) (rows : List (List ℕ)) → length (sets_of size rows) ≡ length rows
sets_long size rows = length-map rows (λ (row : List ℕ). numbers_below size (has_bit row))

pub set_is : (size : ℕ) (rows : List (List ℕ)) (n : ℕ) → n < length rows → get_or (sets_of size rows) n set.empty ≡ numbers_below size (has_bit (get_or rows n []))
set_is size rows n inside = get_or-map (λ (row : List ℕ). numbers_below size (has_bit row)) rows n [] set.empty inside

-- words of one set are one row
pub rows_same : (size : ℕ) (a b : List ℕ) → IsSetRow size a → IsSetRow size b → numbers_below size (has_bit a) ≡ numbers_below size (has_bit b) → a ≡ b
rows_same size a b is is' same =
    digits_l-packed size a is.packed is.fits
    ∙ ap (λ (s : Numbers). digits_l (2 ^ 64) (words_for size) (binary s)) same
    ∙ sym (digits_l-packed size b is'.packed is'.fits)

pub sets_different : (size : ℕ) (rows : List (List ℕ)) → AreSetRows size rows → AreDifferent (sets_of size rows)
sets_different size rows are i j i_in j_in same =
    let long = sets_long size rows in
    let i_row : i < length rows = omega (arith, long) in
    let j_row : j < length rows = omega (arith, long) in
    are.apart i j i_row j_row
    (rows_same size (get_or rows i []) (get_or rows j []) (are.rows_are i [] i_row) (are.rows_are j [] j_row)
    (sym (set_is size rows i i_row) ∙ same ∙ set_is size rows j j_row))

-- the words of a set
module _ (s : SizedSet) (words : List ℕ) (row : IsSetRow s.size words) (is : numbers_below s.size (has_bit words) ≡ s.members) where
  pub found_row : (rows : List (List ℕ)) (n : ℕ) → n < length rows → get_or rows n [] ≡ words → get_or (sets_of s.size rows) n set.empty ≡ s.members
  found_row rows n inside there = set_is s.size rows n inside ∙ ap (λ (r : List ℕ). numbers_below s.size (has_bit r)) there ∙ is

  pub missing_row : (rows : List (List ℕ)) → AreSetRows s.size rows → IsNew words rows → (n : ℕ) → n < length rows → get_or (sets_of s.size rows) n set.empty ≡ s.members → ⊥
  missing_row rows are new n inside same =
      new n inside (rows_same s.size (get_or rows n []) words (are.rows_are n [] inside) row (sym (set_is s.size rows n inside) ∙ same ∙ sym is))

  pub found_if : (rows : List (List ℕ)) (r : Option ℕ) → IfSome r (λ n. (n < length rows) × (get_or rows n [] ≡ words)) → IfSome r (λ n. (n < length rows) × (get_or (sets_of s.size rows) n set.empty ≡ s.members))
  found_if rows None found = tt
  found_if rows (Some n) found = (found.0, found_row rows n found.0 found.1)

  pub missing_if : (rows : List (List ℕ)) (r : Option ℕ) → AreSetRows s.size rows → IfNone r (IsNew words rows) → IfNone r ((n : ℕ) → n < length rows → get_or (sets_of s.size rows) n set.empty ≡ s.members → ⊥)
  missing_if rows None are new = missing_row rows are new
  missing_if rows (Some n) are new = tt

  pub new_row : (rows : List (List ℕ)) → ((n : ℕ) → n < length rows → get_or (sets_of s.size rows) n set.empty ≡ s.members → ⊥) → IsNew words rows
  new_row rows new n inside there = new n inside (found_row rows n inside there)

  pub sets_pushed : (rows : List (List ℕ)) → sets_of s.size (rows ++ words ∷ []) ≡ sets_of s.size rows ++ s.members ∷ []
  sets_pushed rows = map-append (λ (r : List ℕ). numbers_below s.size (has_bit r)) rows (words ∷ []) ∙ (λ j. sets_of s.size rows ++ is j ∷ [])

  pub rows_pushed : (rows : List (List ℕ)) → AreSetRows s.size rows → IsNew words rows → AreSetRows s.size (rows ++ words ∷ [])
  rows_pushed rows are new =
      record {
        rows_are = All-append (IsSetRow s.size) rows (words ∷ []) are.rows_are (All-from_recursion (IsSetRow s.size) (words ∷ []) (row, tt));
        apart = once_more [] rows words are.apart new;
      }

-- indices of rows are those of sets
pub known_sets : (size : ℕ) (rows : List (List ℕ)) (order : List ℕ) → All (λ i. i < length rows) order → All (λ i. i < length (sets_of size rows)) order
known_sets size rows order known k d h =
    let old : get_or order k d < length rows = known k d h in
    omega (arith, sets_long size rows)

-- ---- a use

pub used_len : (m : List Numbers) (order : List ℕ) → length (sets_at m order) ≡ length order
used_len m order = length-map order (λ (k : ℕ). get_or m k set.empty)

pub used_grow : (m : List Numbers) (order : List ℕ) (index : ℕ) → AreDifferent m → index < length m → All (λ i. i < length m) order → sets_at m (insert_key eqb order index) ≡ with_set (sets_at m order) (get_or m index set.empty)
used_grow m order index different inside known =
    let s = get_or m index set.empty in
    let u = sets_at m order in
    let there : list_any (eqb index) order ≡ ltb (place u s) (length u) = first_there (eqb index) order ∙ (λ j. ltb (sym (place_by_index m order index different inside known) j) (sym (used_len m order) j)) in
    at_test (list_any (eqb index) order) ∙ ap (λ (c : Bool). cond c u (u ++ s ∷ [])) there
  where
    at_test : (c : Bool) → sets_at m (cond c order (order ++ index ∷ [])) ≡ cond c (sets_at m order) (sets_at m order ++ get_or m index set.empty ∷ [])
    at_test true = refl
    at_test false = sets_at_push m order index

-- ---- a set that is met

-- no rows
pub no_sets : (size : ℕ) → AreSetRows size []
no_sets size = record { rows_are = λ k d h. absurd (omega (arith, h)); apart = λ i j h more same. absurd (omega (arith, h)) }
