-- Names that earlier items have, as a loop over the items finds them.
use Rattle.mp_typing.proofs.Basics.{◌≡◌, ℕ, ◌+◌, ◌<◌, ◌≤◌, Bool, true, false, List, [], ◌∷◌, ◌++◌, map, length, get_or, take, drop, Option, refl, sym, ap, ◌∙◌, arith, bytes_eq, pointwise, take_more, map-append, list_any-append, File, Word}
use Rattle.mp_typing.proofs.Basics.{Fault, Twice, fault_at, is_earlier, leftmost, is_among, is_same, twice_if, repeated_faults}
use Rattle.std.specs.Prelude.{not}
use Rattle.std.proofs.lemmas.Bool.{and_right}
use Rattle.mp_list.specs.Repeats.{is_among_keys, if_repeated, repeats_behind}
use Rattle.mp_list.proofs.RepeatLemmas as steps
use Rattle.mp_typing.specs.Names.{SameNames}
use Rattle.mp_typing.proofs.Lists.{swaps}
use Rattle.mp_sexp.proofs.Places.{swapped}

-- a set has these names
abbrev pub Seen : List (List ℕ) → List (List ℕ) → Type 0
Seen names keys = (name : List ℕ) → is_among names name ≡ is_among_keys bytes_eq keys name

pub seen_none : (names : List (List ℕ)) → names ≡ [] → Seen names []
seen_none names none name = ap (λ (ns : List (List ℕ)). is_among ns name) none

-- and one name more
seen_more : (names more keys : List (List ℕ)) (key : List ℕ) → Seen names keys → SameNames more (key ∷ names) → Seen more (keys ++ key ∷ [])
seen_more names more keys key seen adds name =
    rw (adds name, list_any-append (λ (k : List ℕ). bytes_eq k name) keys (key ∷ []), seen name, swapped name key)
    (swaps (bytes_eq key name) (is_among_keys bytes_eq keys name))

-- the names of items, by the words that declare them
abbrev pub names_by : {X : Type 0} → (X → Word) → List X → List (List ℕ)
names_by C xs = map (λ x. (C x).name) xs

one_more : {X : Type 0} (C : X → Word) (xs : List X) (i : ℕ) (x : X) → i < length xs → x ≡ get_or xs i x
    → names_by C (take (i + 1) xs) ≡ names_by C (take i xs) ++ (C x).name ∷ []
one_more C xs i x lt is = rw (take_more xs i x lt, ← is, map-append (λ y. (C y).name) (take i xs) (x ∷ [])) refl

pub seen_on : {X : Type 0} (C : X → Word) (xs : List X) (i : ℕ) (x : X) (w : Word) (names more : List (List ℕ))
    → i < length xs → x ≡ get_or xs i x → w ≡ C x → Seen names (names_by C (take i xs)) → SameNames more (w.name ∷ names) → Seen more (names_by C (take (i + 1) xs))
seen_on C xs i x w names more lt is called seen adds =
    rw (one_more C xs i x lt is, ← called) (seen_more names more (names_by C (take i xs)) w.name seen adds)

-- the faults of the items from a place on
abbrev pub faults_from : {X : Type 0} → File → (X → Word) → List X → ℕ → List Fault
faults_from file C xs i =
    map (λ x. fault_at Twice file (C x)) (repeats_behind bytes_eq (λ x. (C x).name) (names_by C (take i xs)) (drop i xs))

pub repeats_begin : {X : Type 0} (C : X → Word) (file : File) (o : Option Fault) (xs : List X)
    → leftmost o (faults_from file C xs 0) ≡ leftmost o (repeated_faults file C xs)
unfolding repeated_faults
repeats_begin C file o xs = refl

twice : (a b : Bool) → a ≡ not b → not a ≡ b
twice a true e = ap not e
twice a false e = ap not e

one_fault : {X : Type 0} (C : X → Word) (file : File) (x : X) (b : Bool) → twice_if b file (C x) ≡ map (λ y. fault_at Twice file (C y)) (if_repeated b x)
one_fault C file x true = refl
one_fault C file x false = refl

-- one item is looked at: whether an earlier one has its name, and what follows
pub repeats_on : {X : Type 0} (C : X → Word) (file : File) (o o' whole : Option Fault) (xs : List X) (i : ℕ) (x : X) (w : Word) (names : List (List ℕ)) (is_new : Bool)
    → i < length xs → x ≡ get_or xs i x → w ≡ C x
    → Seen names (names_by C (take i xs)) → is_new ≡ not (is_among names w.name)
    → o' ≡ leftmost o (twice_if (not is_new) file w)
    → leftmost o (faults_from file C xs i) ≡ whole
    → leftmost o' (faults_from file C xs (i + 1)) ≡ whole
repeats_on C file o o' whole xs i x w names is_new lt is called seen told found =
    let keys = names_by C (take i xs) in
    let second = twice is_new (is_among names w.name) told ∙ seen w.name in
    steps.repeats_on is_earlier (λ y. fault_at Twice file (C y)) bytes_eq (λ y. (C y).name) o o' whole xs i x lt is
    (rw (found, second, called) (ap (leftmost o) (one_fault C file x (is_among_keys bytes_eq keys (C x).name))))

-- all items are looked at
pub repeats_end : {X : Type 0} (C : X → Word) (file : File) (o whole : Option Fault) (xs : List X) (i : ℕ) → length xs ≤ i
    → leftmost o (faults_from file C xs i) ≡ whole → o ≡ whole
repeats_end C file o whole xs i =
    steps.repeats_end is_earlier (λ y. fault_at Twice file (C y)) bytes_eq (λ y. (C y).name) o whole (names_by C (take i xs)) xs i

pub of_other_length : (a b : List Word) → (length a ≡ length b → ⊥) → false ≡ pointwise is_same a b
of_other_length [] [] ne = absurd (ne refl)
of_other_length [] (y ∷ ys) ne = refl
of_other_length (x ∷ xs) [] ne = refl
of_other_length (x ∷ xs) (y ∷ ys) ne =
    sym (and_right (is_same x y) (pointwise is_same xs ys) (sym (of_other_length xs ys (λ e. ne (omega (arith, e))))))
