-- The first declaration of each name, one declaration after the other.
use Rattle.mp_typing.proofs.Basics.{◌≡◌, ℕ, ◌+◌, ◌<◌, Bool, true, false, not, List, [], ◌∷◌, ◌++◌, map, length, get_or, take, refl, sym, ap, ◌∙◌, inl, inr, append_assoc, arith, is_some, bytes_eq, cases_Bool, not-true, take_more}
use Rattle.mp_typing.proofs.Basics.{append-nil, length-append, length-take-le, Typed, is_among, Entry, number_of, SameNumbers, AreFound, is_object, first_declared}
use Rattle.std.proofs.lemmas.Bool.{not-false, or_parts}
use Rattle.mp_list.proofs.Bools.{or_false}
use Rattle.std.proofs.lemmas.List.Elements.{filter-append}
use Rattle.mp_typing.specs.ObjectList.{others}
use Rattle.mp_typing.proofs.LookupLemmas.{is_placed, place_added, places_none}
use Rattle.mp_sexp.proofs.Places.{swapped}

-- whether a name is declared
abbrev pub is_declared : List Typed → List ℕ → Bool
is_declared declared name = is_among (map (λ t. t.word.name) declared) name

-- a declaration of a name that is not declared yet
pub with_new : (ds : List Typed) (t : Typed) → is_declared ds t.word.name ≡ false → first_declared (ds ++ t ∷ []) ≡ first_declared ds ++ t ∷ []
unfolding first_declared
with_new [] t h = refl
with_new (d ∷ ds) t h =
    let (other, absent) = or_parts (bytes_eq t.word.name d.word.name) (is_declared ds t.word.name) h in
    rw (with_new ds t absent, filter-append (λ (u : Typed). not (bytes_eq u.word.name d.word.name)) (first_declared ds) (t ∷ []), other) refl

-- and of one that is
pub with_old : (ds : List Typed) (t : Typed) → is_declared ds t.word.name ≡ true → first_declared (ds ++ t ∷ []) ≡ first_declared ds
unfolding first_declared
with_old [] t h = absurd (cc)
with_old (d ∷ ds) t h =
    elim (cases_Bool (is_declared ds t.word.name)) [
      | inl before ↦ rw (with_old ds t before) refl
      | inr absent ↦
          let same : bytes_eq t.word.name d.word.name ≡ true = sym (or_false (bytes_eq t.word.name d.word.name)) ∙ rw absent at h in
          rw (
            with_new ds t absent,
            filter-append (λ (u : Typed). not (bytes_eq u.word.name d.word.name)) (first_declared ds) (t ∷ []),
            same,
            append-nil (others d.word.name (first_declared ds)),
          ) refl
    ]

declared_object : (ds : List Typed) (name : List ℕ) → is_object ds name ≡ is_declared ds name
unfolding is_object
declared_object [] name = refl
declared_object (d ∷ ds) name = rw (swapped d.word.name name, declared_object ds name) refl

-- nothing is declared
pub found_none : (places : List Entry) (listed : List Typed) → places ≡ [] → listed ≡ [] → AreFound [] places listed
unfolding first_declared
found_none places listed no_place none = record { placed = places_none places no_place; first = none }

-- a declaration of a new name is listed
pub found_new : (declared listed : List Typed) (t : Typed) (place : ℕ) (is_new : Bool) (places after : List Entry) → length declared ≡ place
    → AreFound declared places listed → is_new ≡ not (is_some (number_of t.word.name places)) → is_new ≡ true
    → SameNumbers after (places ++ record { name = t.word.name; number = place } ∷ []) → AreFound (declared ++ t ∷ []) after (listed ++ t ∷ [])
found_new declared listed t place is_new places after at found is new added =
    let absent = sym (declared_object declared t.word.name) ∙ sym (is_placed places declared t.word.name found.placed) ∙ not-true _ (sym is ∙ new) in
    record {
      placed = place_added places after declared t place (sym at) found.placed added;
      first = ap (λ (ts : List Typed). ts ++ t ∷ []) found.first ∙ sym (with_new declared t absent);
    }

-- and one of a name that is declared already is left out
pub found_old : (declared listed : List Typed) (t : Typed) (place : ℕ) (is_new : Bool) (places after : List Entry) → length declared ≡ place
    → AreFound declared places listed → is_new ≡ not (is_some (number_of t.word.name places)) → is_new ≡ false
    → SameNumbers after (places ++ record { name = t.word.name; number = place } ∷ []) → AreFound (declared ++ t ∷ []) after listed
found_old declared listed t place is_new places after at found is old added =
    let there = sym (declared_object declared t.word.name) ∙ sym (is_placed places declared t.word.name found.placed) ∙ not-false _ (sym is ∙ old) in
    record {
      placed = place_added places after declared t place (sym at) found.placed added;
      first = found.first ∙ sym (with_old declared t there);
    }

-- the declarations up to a place, with the one there
pub one_more : (before declared : List Typed) (i : ℕ) (t : Typed) → i < length declared → t ≡ get_or declared i t
    → (before ++ take i declared) ++ t ∷ [] ≡ before ++ take (i + 1) declared
one_more before declared i t lt is = rw (append_assoc before (take i declared) (t ∷ []), take_more declared i t lt, ← is) refl

-- how many there are up to a place
pub count_before : (before declared : List Typed) (first i : ℕ) → length before ≡ first → i < length declared → length (before ++ take i declared) ≡ first + i
count_before before declared first i long lt =
    rw (length-append before (take i declared), long, length-take-le i declared (omega (arith, lt))) refl
