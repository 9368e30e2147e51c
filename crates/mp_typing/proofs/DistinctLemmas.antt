-- Where each object has a name of its own, each is the first of its name, and no object is unlike the first of its name.
use Rattle.mp_typing.proofs.Basics.{◌≡◌, ◌+◌, ◌==◌, ◌≤◌, Bool, true, false, not, List, [], ◌∷◌, ◌++◌, length, map, Bor, Some, refl, sym, ap, ◌∙◌, inl, inr, arith, filter, find, Contains, flat_map, bytes_eq, pointwise, not-true}
use Rattle.mp_typing.proofs.Basics.{Contains-append_right, length-map, length-append, bytes_eq-Decides, contains_cases, contains_tail, contains_head, no_member, File, Word, Typed, first_declared, is_same, object_faults}
use Rattle.std.proofs.lemmas.Bool.{and_from, not_from_false, true_from_ne_false}
use Rattle.std.proofs.lemmas.List.Filters.{length-filter_both}
use Rattle.std.proofs.lemmas.List.Sums.{count_by-le-length, length-filter}
use Rattle.mp_typing.proofs.Passing.{taken_from_passes}
use Rattle.mp_typing.specs.Repeats.{is_alike, is_same_privacy}
use Rattle.mp_sexp.proofs.Places.{swapped}

-- ---- filters that leave out nothing

fewer : {X : Type 0} (p : X → Bool) (xs : List X) → length (filter p xs) ≤ length xs
fewer p xs = omega (arith, length-filter p xs, count_by-le-length p xs)

-- a filter that keeps as many as there are keeps each
keeps_each : {X : Type 0} (p : X → Bool) (xs : List X) → length (filter p xs) ≡ length xs → (y : X) → Contains xs y → p y ≡ true
keeps_each {X} p xs e y found =
    let fails : X → Bool = λ x. not (p x) in
    true_from_ne_false (p y) (λ no.
    let (k, lt, is) = taken_from_passes fails xs y found (not_from_false (p y) no) in
    omega (arith, lt, e, length-filter_both p fails (λ x. refl) xs))

-- and changes nothing
keeps_all : {X : Type 0} (p : X → Bool) (xs : List X) → length (filter p xs) ≡ length xs → filter p xs ≡ xs
keeps_all p [] e = refl
keeps_all p (x ∷ xs) e =
    let passes = keeps_each p (x ∷ xs) e x (contains_head x xs) in
    let long = rw passes at e in
    rw passes (ap (λ ys. x ∷ ys) (keeps_all p xs (omega (arith, long))))

-- ---- names of their own

-- as many names as declarations
abbrev IsDistinct : List Typed → Type 0
IsDistinct ts = length (first_declared ts) ≡ length ts

-- the test with which the declarations of other names are kept
abbrev is_other : Typed → Typed → Bool
is_other t u = not (bytes_eq u.word.name t.word.name)

fewer_names : (ts : List Typed) → length (first_declared ts) ≤ length ts
unfolding first_declared
fewer_names [] = omega arith
fewer_names (t ∷ ts) = omega (arith, fewer (is_other t) (first_declared ts), fewer_names ts)

-- the others have names of their own, and none of them the first one's
others_distinct : (t : Typed) (ts : List Typed) → IsDistinct (t ∷ ts)
    → IsDistinct ts × (length (filter (is_other t) (first_declared ts)) ≡ length (first_declared ts))
unfolding first_declared
others_distinct t ts e =
    let out = fewer (is_other t) (first_declared ts) in
    let rest = fewer_names ts in
    (omega (arith, out, rest, e), omega (arith, out, rest, e))

pub all_first : (ts : List Typed) → length (first_declared ts) ≡ length ts → first_declared ts ≡ ts
unfolding first_declared
all_first [] e = refl
all_first (t ∷ ts) e =
    let (rest, all) = others_distinct t ts e in ap (λ us. t ∷ us) (keeps_all (is_other t) (first_declared ts) all ∙ all_first ts rest)

-- no other declaration has the first one's name
apart : (t : Typed) (ts : List Typed) → IsDistinct (t ∷ ts) → (u : Typed) → Contains ts u → is_same t.word u.word ≡ false
apart t ts e u found =
    let (rest, all) = others_distinct t ts e in
    let other = keeps_each (is_other t) (first_declared ts) all u (rw (all_first ts rest) found) in
    swapped t.word.name u.word.name ∙ not-true (bytes_eq u.word.name t.word.name) other

same_itself : (w : Word) → is_same w w ≡ true
same_itself w = (bytes_eq-Decides w.name w.name).1 refl

-- each is the first of its name
finds_itself : (ts : List Typed) → IsDistinct ts → (u : Typed) → Contains ts u → find (λ o. is_same o.word u.word) ts ≡ Some u
finds_itself [] e u found = absurd (no_member u found)
finds_itself (t ∷ ts) e u found =
    elim (contains_cases t ts u found) [
      | inl here ↦ rw (ap (λ v. is_same t.word v.word) (sym here) ∙ same_itself t.word) (ap (λ v. Some v) here)
      | inr there ↦ rw (apart t ts e u there) (finds_itself ts (others_distinct t ts e).0 u there)
    ]

-- ---- and like itself

same_words : (ws : List Word) → pointwise is_same ws ws ≡ true
same_words [] = refl
same_words (w ∷ ws) = and_from (is_same w w) (pointwise is_same ws ws) (same_itself w) (same_words ws)

same_privacy : (b : Bool) → is_same_privacy b b ≡ true
same_privacy true = refl
same_privacy false = refl

alike_itself : (t : Typed) → is_alike t t ≡ true
unfolding is_alike
alike_itself t = and_from (pointwise is_same t.types t.types) (is_same_privacy t.private t.private) (same_words t.types) (same_privacy t.private)

faultless : (file : File) (all : List Typed) → IsDistinct all → (u : Typed) → Contains all u → object_faults file all u ≡ []
unfolding object_faults
faultless file all e u found = rw (finds_itself all e u found, alike_itself u) refl

all_faultless : (file : File) (all : List Typed) → IsDistinct all → (part : List Typed) → ((u : Typed) → Contains part u → Contains all u)
    → flat_map (object_faults file all) part ≡ []
all_faultless file all e [] within = refl
all_faultless file all e (u ∷ us) within =
    rw (faultless file all e u (within u (contains_head u us))) (all_faultless file all e us (λ v found. within v (contains_tail u us v found)))

-- no object is unlike the first of its name, where each has a name of its own
pub none_unlike : (file : File) (constants objects : List Typed) → length (first_declared (constants ++ objects)) ≡ length (constants ++ objects)
    → flat_map (object_faults file (constants ++ objects)) objects ≡ []
none_unlike file constants objects e = all_faultless file (constants ++ objects) e objects (Contains-append_right constants objects)

-- as many objects are listed as there are names
pub as_many : (listed : List (Bor Typed)) (whole constants objects : List Typed) → map (λ o. o.now) listed ≡ whole
    → (length listed == length constants + length objects) ≡ (length whole == length (constants ++ objects))
as_many listed whole constants objects e = rw (← e, length-map listed (λ o. o.now), length-append constants objects) refl
