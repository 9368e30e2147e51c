-- What may stand at most so many times, as a loop counts it.
use Rattle.mp_factor.proofs.Basics.{◌≡◌, ℕ, zero, suc, ◌+◌, ◌-◌, ◌<◌, ◌≤◌, Bool, true, false, ◌&&◌, List, [], ◌∷◌, ◌++◌, length, get_or, drop, map, Result, Err, sym, ◌∙◌, arith, ◌==◌, if◌then◌else◌, filter, flat_map}
use Rattle.mp_factor.proofs.Basics.{drop_of_length-le, Place, Fault, FaultKind, fault_at, Reading, all_right, at_most, found_in, second_found, nothing_found}
use Rattle.std.proofs.Math.Dec.{eqb-suc-zero}
use Rattle.mp_factor.proofs.FoundLemmas.{checks_begin, drop_next, found_all_right, nothing_second, second_assoc}

-- what is found of one that is counted, or not
abbrev pub here : Bool → ℕ → Result (Unit {0}) Fault → Result (Unit {0}) Fault
here is_one left wrong = if is_one && left == 0 then wrong else nothing_found

abbrev pub left_behind : Bool → ℕ → ℕ
left_behind is_one left = if is_one then left - 1 else left

-- the first item, and the others
pub at_most_on : {A : Type 0} → (left : ℕ) (test : A → Bool) (wrong : A → Reading (Unit {0})) (x : A) (xs : List A)
    → found_in (at_most left test wrong (x ∷ xs))
    ≡ second_found (here (test x) left (found_in (wrong x))) (found_in (at_most (left_behind (test x) left) test wrong xs))
unfolding at_most
at_most_on {A} left test wrong x xs =
    elim (test x) as (λ b. found_in (all_right wrong (drop left (if b then x ∷ filter test xs else filter test xs)))
    ≡ second_found (here b left (found_in (wrong x))) (found_in (all_right wrong (drop (left_behind b left) (filter test xs))))) [
      | true ↦ elim left as (λ m. found_in (all_right wrong (drop m (x ∷ filter test xs)))
          ≡ second_found (here true m (found_in (wrong x))) (found_in (all_right wrong (drop (m - 1) (filter test xs))))) [
            | zero ↦ found_all_right wrong x (filter test xs)
            | suc m ↦ let one : suc m - 1 ≡ m = omega arith in
                rw (one, eqb-suc-zero m) (sym (checks_begin (found_in (all_right wrong (drop m (filter test xs))))))
          ]
      | false ↦ sym (checks_begin (found_in (all_right wrong (drop left (filter test xs)))))
    ]

pub none_counted : {A : Type 0} → (left : ℕ) (test : A → Bool) (wrong : A → Reading (Unit {0})) → found_in (at_most left test wrong []) ≡ nothing_found
unfolding at_most all_right
none_counted left test wrong = grind arith

-- how what is counted is wrong: each with a fault of one kind at its place
pub record Counts {A : Type 0} (wrong : A → Reading (Unit {0})) (at : A → Place) (kind : FaultKind) : Type 0 where
  pub gives : (a : A) → found_in (wrong a) ≡ Err (fault_at (at a) kind)

-- one is counted, before others
counts_one : {B : Type 0} → (test : B → Bool) (wrong : B → Reading (Unit {0})) (at : B → Place) (kind : FaultKind) → Counts wrong at kind
    → (o o' whole : Result (Unit {0}) Fault) (left left' : ℕ) (is_one : Bool) (place : Place) (x : B) (rest : List B)
    → is_one ≡ test x → place ≡ at x
    → o' ≡ second_found o (here is_one left (Err (fault_at place kind)))
    → left' ≡ left_behind is_one left
    → second_found o (found_in (at_most left test wrong (x ∷ rest))) ≡ whole
    → second_found o' (found_in (at_most left' test wrong rest)) ≡ whole
counts_one test wrong at kind counts o o' whole left left' is_one place x rest is_test is_place found counted so_far =
    let known = rw (at_most_on, counts.gives, ← second_assoc) at so_far in
    rw (found, counted, is_test, is_place) known

-- one item of a list is counted, before others behind the list
pub counts_more : {A B : Type 0} → (f : A → B) (test : B → Bool) (wrong : B → Reading (Unit {0})) (at : B → Place) (kind : FaultKind) → Counts wrong at kind
    → (o o' whole : Result (Unit {0}) Fault) (left left' : ℕ) (is_one : Bool) (place : Place) (xs : List A) (i : ℕ) (x : A)
    → i < length xs → x ≡ get_or xs i x
    → is_one ≡ test (f x) → place ≡ at (f x)
    → o' ≡ second_found o (here is_one left (Err (fault_at place kind)))
    → left' ≡ left_behind is_one left
    → (others : List B)
    → second_found o (found_in (at_most left test wrong (map f (drop i xs) ++ others))) ≡ whole
    → second_found o' (found_in (at_most left' test wrong (map f (drop (i + 1) xs) ++ others))) ≡ whole
counts_more f test wrong at kind counts o o' whole left left' is_one place xs i x lt is is_test is_place found counted others so_far =
    let known = rw (drop_next xs i x lt is) at so_far in
    counts_one test wrong at kind counts o o' whole left left' is_one place (f x) (map f (drop (i + 1) xs) ++ others) is_test is_place found counted known

-- one item of a list is counted
pub counts_on : {A B : Type 0} → (f : A → B) (test : B → Bool) (wrong : B → Reading (Unit {0})) (at : B → Place) (kind : FaultKind) → Counts wrong at kind
    → (o o' whole : Result (Unit {0}) Fault) (left left' : ℕ) (is_one : Bool) (place : Place) (xs : List A) (i : ℕ) (x : A)
    → i < length xs → x ≡ get_or xs i x
    → is_one ≡ test (f x) → place ≡ at (f x)
    → o' ≡ second_found o (here is_one left (Err (fault_at place kind)))
    → left' ≡ left_behind is_one left
    → second_found o (found_in (at_most left test wrong (map f (drop i xs)))) ≡ whole
    → second_found o' (found_in (at_most left' test wrong (map f (drop (i + 1) xs)))) ≡ whole
counts_on f test wrong at kind counts o o' whole left left' is_one place xs i x lt is is_test is_place found counted so_far =
    let known = rw (drop_next xs i x lt is) at so_far in
    counts_one test wrong at kind counts o o' whole left left' is_one place (f x) (map f (drop (i + 1) xs)) is_test is_place found counted known

-- the items that some members name are counted
pub counts_part : {A B C : Type 0} → (f : A → C) (members : C → List B) (test : B → Bool) (wrong : B → Reading (Unit {0}))
    → (o o' whole : Result (Unit {0}) Fault) (left left' : ℕ) (xs : List A) (i : ℕ) (x : A) (part : List B)
    → i < length xs → x ≡ get_or xs i x → part ≡ members (f x)
    → ((others : List B) → second_found o' (found_in (at_most left' test wrong others)) ≡ second_found o (found_in (at_most left test wrong (part ++ others))))
    → second_found o (found_in (at_most left test wrong (flat_map members (map f (drop i xs))))) ≡ whole
    → second_found o' (found_in (at_most left' test wrong (flat_map members (map f (drop (i + 1) xs))))) ≡ whole
counts_part f members test wrong o o' whole left left' xs i x part lt is is_part counted so_far =
    let known = rw (drop_next xs i x lt is, ← is_part) at so_far in
    counted (flat_map members (map f (drop (i + 1) xs))) ∙ known

-- all parts are counted
pub counts_parts_end : {A B C : Type 0} → (f : A → C) (members : C → List B) (test : B → Bool) (wrong : B → Reading (Unit {0}))
    → (o whole : Result (Unit {0}) Fault) (left : ℕ) (xs : List A) (i : ℕ)
    → length xs ≤ i → second_found o (found_in (at_most left test wrong (flat_map members (map f (drop i xs))))) ≡ whole → o ≡ whole
counts_parts_end f members test wrong o whole left xs i le so_far = grind (arith, drop_of_length-le, none_counted, nothing_second)

-- all items are counted, before others
pub counts_done : {A B : Type 0} → (f : A → B) (test : B → Bool) (wrong : B → Reading (Unit {0})) (o whole : Result (Unit {0}) Fault) (left : ℕ) (xs : List A) (i : ℕ)
    → length xs ≤ i → (others : List B) → second_found o (found_in (at_most left test wrong (map f (drop i xs) ++ others))) ≡ whole
    → second_found o (found_in (at_most left test wrong others)) ≡ whole
counts_done f test wrong o whole left xs i le others so_far = grind (arith, drop_of_length-le)

-- all items are counted
pub counts_end : {A B : Type 0} → (f : A → B) (test : B → Bool) (wrong : B → Reading (Unit {0})) (o whole : Result (Unit {0}) Fault) (left : ℕ) (xs : List A) (i : ℕ)
    → length xs ≤ i → second_found o (found_in (at_most left test wrong (map f (drop i xs)))) ≡ whole → o ≡ whole
counts_end f test wrong o whole left xs i le so_far = grind (arith, drop_of_length-le, none_counted, nothing_second)
