-- Items that are listed with words, one word and one object after the other.
use Rattle.mp_typing.proofs.Basics.{◌≡◌, ℕ, suc, zero, ◌+◌, ◌<◌, Bool, List, [], ◌∷◌, ◌++◌, map, length, get_or, take, Some, Bor, refl, subst, arith, inl, inr, append_assoc, Contains, filter, slice_get, if◌then◌else◌, bytes_eq, bytes_eq-Decides}
use Rattle.mp_typing.proofs.Basics.{cases_Bool, append-nil, map-append, take_more, length-take-le, length-map, Contains-append_cases, Contains-append_left, Contains-append_right, from_map, to_map, from_flat_map, to_flat_map, no_member, Word, Typed, DeclaredUnder, names_of, listed_by, places_of, directly_under}
use Rattle.std.proofs.lemmas.Grind.{flat_map-append}
use Rattle.std.proofs.lemmas.List.Elements.{filter-append}
use Rattle.mp_typing.proofs.Passing.{taken_passes, taken_from_passes}

-- the words that are a name
abbrev named : List ℕ → Word → Bool
named name w = bytes_eq w.name name

-- ---- what is listed

pub from_listed : {T : Type 0} (item : T) (words : List Word) (name : List ℕ) (x : T) → Contains (listed_by item words name) x
    → (item ≡ x) × Contains (names_of words) name
from_listed {T} item words name x found =
    let (w, there, is) = from_map (λ (v : Word). item) (filter (named name) words) x found in
    let passed = taken_passes (named name) words w there in
    (is, subst (Contains (names_of words)) ((bytes_eq-Decides w.name name).0 passed.1) (to_map (λ (v : Word). v.name) words w passed.0))

pub to_listed : {T : Type 0} (item : T) (words : List Word) (name : List ℕ) → Contains (names_of words) name → Contains (listed_by item words name) item
to_listed {T} item words name found =
    let (w, there, is) = from_map (λ (v : Word). v.name) words name found in
    to_map (λ (v : Word). item) (filter (named name) words) w (taken_from_passes (named name) words w there ((bytes_eq-Decides w.name name).1 is))

-- what is listed as directly under a type is declared directly under it, and the way back
pub is_under : (declared : List Typed) (name sub : List ℕ) → Contains (directly_under declared name) sub → DeclaredUnder declared sub name
is_under declared name sub found =
    let (t, there, inner) = from_flat_map (λ (u : Typed). listed_by u.word.name u.types name) declared sub found in
    let of = from_listed t.word.name t.types name sub inner in
    record { declaration = t; listed = there; lower = of.0; upper = of.1 }

pub has_under : (declared : List Typed) (name sub : List ℕ) → DeclaredUnder declared sub name → Contains (directly_under declared name) sub
has_under declared name sub d =
    let t = d.declaration in
    to_flat_map (λ (u : Typed). listed_by u.word.name u.types name) declared t sub d.listed
    (subst (Contains (listed_by t.word.name t.types name)) d.lower (to_listed t.word.name t.types name d.upper))

-- a place that is listed with a type is that of an object that is written with it
pub in_places : (n : ℕ) (os : List Typed) (name : List ℕ) (p : ℕ) → Contains (places_of n os name) p
    → (i : ℕ) × (o : Typed) × (p ≡ n + i) × (slice_get os i ≡ Some o) × Contains (names_of o.types) name
unfolding places_of
in_places n [] name p found = absurd (no_member p found)
in_places n (o ∷ os) name p found =
    elim (Contains-append_cases (listed_by n o.types name) (places_of (suc n) os name) p found) [
      | inl here ↦
          let of = from_listed n o.types name p here in
          let is = of.0 in
          (0, o, omega (arith, is), refl, of.1)
      | inr there ↦ let (i, u, is, at, typed) = in_places (suc n) os name p there in (suc i, u, omega (arith, is), at, typed)
    ]

-- and the way back
pub to_places : (n : ℕ) (os : List Typed) (name : List ℕ) (i : ℕ) (o : Typed) → slice_get os i ≡ Some o → Contains (names_of o.types) name
    → Contains (places_of n os name) (n + i)
unfolding places_of
to_places n [] name i o at typed = absurd (cc)
to_places n (u ∷ us) name zero o at typed =
    let is : u ≡ o = cc in
    let none : n + 0 ≡ n = omega arith in
    rw none (Contains-append_left (listed_by n u.types name) (places_of (suc n) us name) n (to_listed n u.types name (rw is typed)))
to_places n (u ∷ us) name (suc i) o at typed =
    let next : n + suc i ≡ suc n + i = omega arith in
    rw next (Contains-append_right (listed_by n u.types name) (places_of (suc n) us name) (suc n + i) (to_places (suc n) us name i o at typed))

-- ---- one more

listed_push : {T : Type 0} (item : T) (words : List Word) (w : Word) (name : List ℕ)
    → listed_by item (words ++ w ∷ []) name ≡ listed_by item words name ++ (if bytes_eq w.name name then item ∷ [] else [])
listed_push item words w name =
    rw (filter-append (named name) words (w ∷ []), map-append (λ (v : Word). item) (filter (named name) words) (filter (named name) (w ∷ [])))
    (elim (cases_Bool (bytes_eq w.name name)) [
      | inl equal ↦ rw equal refl
      | inr other ↦ rw other refl
    ])

-- an item more where a word is the name, and then as listed with one word more
pub word_more : {T : Type 0} (item copy : T) (words : List Word) (i : ℕ) (w : Word) (name : List ℕ) (old was now : List T) → copy ≡ item
    → i < length words → w ≡ get_or words i w → was ≡ old ++ listed_by item (take i words) name
    → now ≡ (if bytes_eq w.name name then was ++ copy ∷ [] else was) → now ≡ old ++ listed_by item (take (i + 1) words) name
word_more item copy words i w name old was now copied lt is so_far more =
    let here = listed_by item (take i words) name in
    rw (more, copied, so_far, take_more words i w lt, ← is, listed_push item (take i words) w name)
    (elim (cases_Bool (bytes_eq w.name name)) [
      | inl equal ↦ rw equal (append_assoc old here (item ∷ []))
      | inr other ↦ rw (other, append-nil here) refl
    ])

-- one declaration more
pub declared_more : (ts : List Typed) (i : ℕ) (t : Typed) (name : List ℕ) → i < length ts → t ≡ get_or ts i t
    → directly_under (take i ts) name ++ listed_by t.word.name t.types name ≡ directly_under (take (i + 1) ts) name
declared_more ts i t name lt is =
    let f = λ (u : Typed). listed_by u.word.name u.types name in
    rw (take_more ts i t lt, ← is, flat_map-append f (take i ts) (t ∷ []), append-nil (f t)) refl

places_push : (n : ℕ) (os : List Typed) (o : Typed) (name : List ℕ)
    → places_of n (os ++ o ∷ []) name ≡ places_of n os name ++ listed_by (n + length os) o.types name
unfolding places_of
places_push n [] o name = let none : n + 0 ≡ n = omega arith in rw (append-nil (listed_by n o.types name), none) refl
places_push n (u ∷ us) o name =
    let next : n + suc (length us) ≡ suc n + length us = omega arith in
    rw (places_push (suc n) us o name, next, append_assoc (listed_by n u.types name) (places_of (suc n) us name) (listed_by (suc n + length us) o.types name)) refl

-- the objects themselves
abbrev pub shown : List (Bor Typed) → List Typed
shown os = map (λ (o : Bor Typed). o.now) os

-- one object more
pub object_more : (os : List (Bor Typed)) (i place : ℕ) (o : Bor Typed) (name : List ℕ) → i < length os → o ≡ get_or os i o → place ≡ i
    → places_of 0 (shown (take i os)) name ++ listed_by place o.now.types name ≡ places_of 0 (shown (take (i + 1) os)) name
object_more os i place o name lt is counted =
    let first = shown (take i os) in
    let long : 0 + length first ≡ place =
    let a = length-map (take i os) (λ (u : Bor Typed). u.now) in
    let b = length-take-le i os (omega (arith, lt)) in
    omega (arith, a, b, counted) in
    rw (take_more os i o lt, ← is, map-append (λ (u : Bor Typed). u.now) (take i os) (o ∷ []), places_push 0 first o.now name, long) refl
