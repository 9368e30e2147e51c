-- The places of the items that pass a test.
use Rattle.mp_typing.proofs.Basics.{◌≡◌, ℕ, zero, suc, ◌+◌, ◌<◌, ◌≤◌, Bool, true, false, List, [], ◌∷◌, ◌++◌, length, get_or, drop, Some, refl, sym, ap, subst, ◌∙◌, inl, inr, append_assoc, arith, zero-add, Contains, slice_get, ◌↔◌}
use Rattle.mp_typing.proofs.Basics.{IsStrictlyIncreasing, drop_of_length-le, cases_Bool, drop_more, append-nil, Typed, Members, is_of_type, contains_cases, contains_head, contains_tail, no_member}
use Rattle.std.proofs.lemmas.List.Elements.{Contains-get_or}
use Rattle.mp_typing.specs.Places.{numbers_where}
use Rattle.mp_typing.proofs.Typing.{is_of_type_decides}

-- ---- one item after the other

-- what is left at a place is the item there and what is left behind it
left_there : {X : Type 0} (xs : List X) (i : ℕ) (x : X) → i < length xs → x ≡ get_or xs i x → drop i xs ≡ x ∷ drop (i + 1) xs
left_there xs i x lt is = rw (drop_more xs i x lt, ← is) refl

pub placed : {X : Type 0} (test : X → Bool) (numbers whole : List ℕ) (n i : ℕ) (xs : List X) (x : X)
    → i < length xs → x ≡ get_or xs i x → test x ≡ true
    → numbers ++ numbers_where n test (drop i xs) ≡ whole
    → (numbers ++ n ∷ []) ++ numbers_where (n + 1) test (drop (i + 1) xs) ≡ whole
unfolding numbers_where
placed test numbers whole n i xs x lt is passes so_far =
    let next : n + 1 ≡ suc n = omega arith in
    rw (next, append_assoc numbers (n ∷ []) (numbers_where (suc n) test (drop (i + 1) xs))) (rw (left_there xs i x lt is, passes) at so_far)

pub skipped : {X : Type 0} (test : X → Bool) (numbers whole : List ℕ) (n i : ℕ) (xs : List X) (x : X)
    → i < length xs → x ≡ get_or xs i x → test x ≡ false
    → numbers ++ numbers_where n test (drop i xs) ≡ whole
    → numbers ++ numbers_where (n + 1) test (drop (i + 1) xs) ≡ whole
unfolding numbers_where
skipped test numbers whole n i xs x lt is fails so_far =
    let next : n + 1 ≡ suc n = omega arith in rw next (rw (left_there xs i x lt is, fails) at so_far)

pub all_placed : {X : Type 0} (test : X → Bool) (numbers whole : List ℕ) (n i : ℕ) (xs : List X) → length xs ≤ i
    → numbers ++ numbers_where n test (drop i xs) ≡ whole → numbers ≡ whole
unfolding numbers_where
all_placed test numbers whole n i xs end so_far = sym (append-nil numbers) ∙ rw (drop_of_length-le xs end) at so_far

-- ---- which places there are

-- a place is the place of an item that passes
from_places : {X : Type 0} (test : X → Bool) (n : ℕ) (ts : List X) (m : ℕ) → Contains (numbers_where n test ts) m
    → (i : ℕ) × (t : X) × (m ≡ n + i) × (slice_get ts i ≡ Some t) × (test t ≡ true)
unfolding numbers_where
from_places test n [] m found = absurd (no_member m found)
from_places test n (t ∷ ts) m found =
    elim (cases_Bool (test t)) [
      | inl passes ↦ elim (contains_cases n (numbers_where (suc n) test ts) m (rw passes at found)) [
        | inl here ↦ (0, t, omega arith, refl, passes)
        | inr there ↦ let (i, u, is, at, ok) = from_places test (suc n) ts m there in (suc i, u, omega arith, at, ok)
      ]
      | inr fails ↦ let (i, u, is, at, ok) = from_places test (suc n) ts m (rw fails at found) in (suc i, u, omega arith, at, ok)
    ]

-- an item that passes has its place
to_places : {X : Type 0} (test : X → Bool) (n : ℕ) (ts : List X) (i : ℕ) (t : X) → slice_get ts i ≡ Some t → test t ≡ true → Contains (numbers_where n test ts) (n + i)
unfolding numbers_where
to_places test n [] i t at ok = absurd (cc)
to_places test n (u ∷ us) zero t at ok =
    let is : u ≡ t = cc in
    let none : n + 0 ≡ n = omega arith in
    rw (none, ap test is ∙ ok) (contains_head n (numbers_where (suc n) test us))
to_places test n (u ∷ us) (suc i) t at ok =
    let there = to_places test (suc n) us i t at ok in
    let next : n + suc i ≡ suc n + i = omega arith in
    elim (cases_Bool (test u)) [
      | inl passes ↦ rw (next, passes) (contains_tail n (numbers_where (suc n) test us) (suc n + i) there)
      | inr fails ↦ rw (next, fails) there
    ]

-- counted from 0
pub place_passes : {X : Type 0} (test : X → Bool) (xs : List X) (n : ℕ) → Contains (numbers_where 0 test xs) n
    → (x : X) × (slice_get xs n ≡ Some x) × (test x ≡ true)
place_passes test xs n found =
    let (i, x, is, at, ok) = from_places test 0 xs n found in
    let same : i ≡ n = omega (arith, is) in
    (x, subst (λ (k : ℕ). slice_get xs k ≡ Some x) same at, ok)

pub passing_place : {X : Type 0} (test : X → Bool) (xs : List X) (n : ℕ) (x : X) → slice_get xs n ≡ Some x → test x ≡ true
    → Contains (numbers_where 0 test xs) n
passing_place test xs n x at ok = subst (Contains (numbers_where 0 test xs)) (zero-add n) (to_places test 0 xs n x at ok)

-- ---- the places rise

rises : (n : ℕ) (ns : List ℕ) → ((m : ℕ) → Contains ns m → suc n ≤ m) → IsStrictlyIncreasing ns → IsStrictlyIncreasing (n ∷ ns)
rises n ns above rest zero lt = above (get_or ns 0 0) (Contains-get_or ns 0 0 (omega (arith, lt)))
rises n ns above rest (suc k) lt = let next : suc k + 1 ≡ suc (k + 1) = omega arith in rw next (rest k (omega arith))

pub places_rise : {X : Type 0} (test : X → Bool) (n : ℕ) (ts : List X) → IsStrictlyIncreasing (numbers_where n test ts)
unfolding numbers_where
places_rise test n [] = λ k lt. absurd (omega (arith, lt))
places_rise test n (t ∷ ts) =
    elim (cases_Bool (test t)) [
      | inl passes ↦ rw passes (rises n (numbers_where (suc n) test ts)
          (λ m found. let (i, u, is, at, ok) = from_places test (suc n) ts m found in omega (arith, is)) (places_rise test (suc n) ts))
      | inr fails ↦ rw fails (places_rise test (suc n) ts)
    ]

-- ---- the objects that are of a type

-- an object is at a place, and its test passes
abbrev pub Passes : List Typed → List Typed → List (List ℕ) → ℕ → Type 0
Passes declared objects asked place = (t : Typed) × (slice_get objects place ≡ Some t) × (is_of_type declared asked t ≡ true)

-- rising numbers are those of members, where they are the places of the objects that pass
pub members_pass : (declared objects : List Typed) (asked : List (List ℕ)) (numbers : List ℕ) → IsStrictlyIncreasing numbers
    → ((place : ℕ) → Contains numbers place ↔ Passes declared objects asked place) → Members declared objects asked numbers
members_pass declared objects asked numbers rising are =
    record {
      rising = rising;
      exact = λ place. (
        (λ found.
            let (t, at, ok) = (are place).0 found in
            record { object = t; at = at; of_type = (is_of_type_decides declared asked t).0 ok }),
        (λ m. (are place).1 (m.object, m.at, (is_of_type_decides declared asked m.object).1 m.of_type)),
      );
    }

-- the places of the objects that pass
pub are_members : (declared objects : List Typed) (asked : List (List ℕ)) → Members declared objects asked (numbers_where 0 (is_of_type declared asked) objects)
are_members declared objects asked =
    let test = is_of_type declared asked in
    members_pass declared objects asked (numbers_where 0 test objects) (places_rise test 0 objects)
    (λ place. (place_passes test objects place, (λ p. passing_place test objects place p.0 p.1 p.2)))
