-- What each of some sections says.
use Rattle.mp_factor.proofs.Basics.{◌≡◌, ℕ, ◌+◌, ◌<◌, ◌≤◌, Bool, true, false, List, [], ◌∷◌, ◌++◌, length, drop, map, Result, Ok, sym, ap, ◌∙◌, get_or, drop-cons, arith, filter, drop_of_length-le}
use Rattle.mp_factor.proofs.Basics.{append_assoc, Node, Fault, Reading, each, found_in, both_found, more_found}
use Rattle.mp_factor.proofs.FirstLemmas.{earlier_assoc}
use Rattle.mp_factor.proofs.FoundLemmas.{lists, begins, found_both, none_more}

-- ---- what each of some sections says

more_assoc : {X : Type 0} → (a b c : Result (List X) Fault) → more_found (more_found a b) c ≡ more_found a (more_found b c)
more_assoc a b c = grind (arith, earlier_assoc, append_assoc)

one_first : {X : Type 0} → (x : Result X Fault) (rest : Result (List X) Fault)
    → both_found (λ x xs. x ∷ xs) x rest ≡ more_found (both_found (λ x xs. x ∷ xs) x (Ok [])) rest
one_first x rest = grind arith

-- what each of those that pass a test says
abbrev pub each_that : {X : Type 0} → (Node → Bool) → (Node → Reading X) → List Node → Result (List X) Fault
each_that test rule ns = found_in (each rule (filter test ns))

first_that_passes : {X : Type 0} → (test : Node → Bool) (rule : Node → Reading X) (n : Node) (ns : List Node)
    → each_that test rule (n ∷ ns) ≡ more_found (each_that test rule (n ∷ [])) (each_that test rule ns)
unfolding each
first_that_passes test rule n ns = grind (arith, found_both, begins)

-- one that passes is read
pub passing_read : {X : Type 0} → (test : Node → Bool) (rule : Node → Reading X) (n : Node) (so_far : Result (List X) Fault) (item : Result X Fault)
    → test n ≡ true → item ≡ found_in (rule n)
    → both_found (λ xs x. xs ++ x ∷ []) so_far item ≡ more_found so_far (each_that test rule (n ∷ []))
unfolding each
passing_read test rule n so_far item passes read = grind (arith, found_both)

no_more : {X : Type 0} → (so_far : Result (List X) Fault) → more_found so_far (Ok []) ≡ so_far
no_more {X} so_far = none_more (λ (xs : List X) (x : X). xs ++ x ∷ []) (λ (xs ys : List X). xs ++ ys) (lists {X = X}) so_far

-- one that does not pass is left out
pub others_left_out : {X : Type 0} → (test : Node → Bool) (rule : Node → Reading X) (n : Node) (so_far : Result (List X) Fault)
    → test n ≡ false → so_far ≡ more_found so_far (each_that test rule (n ∷ []))
unfolding each
others_left_out test rule n so_far fails = grind (arith, no_more)

-- a loop over sections: one of them, and the end
pub each_that_goes_on : {A X : Type 0} → (f : A → Node) (test : Node → Bool) (rule : Node → Reading X) (so_far more whole : Result (List X) Fault)
    → (xs : List A) (i : ℕ) (x : A) → i < length xs → x ≡ get_or xs i x
    → more ≡ more_found so_far (each_that test rule (f x ∷ []))
    → more_found so_far (each_that test rule (map f (drop i xs))) ≡ whole
    → more_found more (each_that test rule (map f (drop (i + 1) xs))) ≡ whole
each_that_goes_on f test rule so_far more whole xs i x lt is read known = grind (arith, drop-cons, first_that_passes, more_assoc)

pub each_that_ends : {A X : Type 0} → (f : A → Node) (test : Node → Bool) (rule : Node → Reading X) (so_far whole : Result (List X) Fault)
    → (xs : List A) (i : ℕ) → length xs ≤ i → more_found so_far (each_that test rule (map f (drop i xs))) ≡ whole → so_far ≡ whole
unfolding each
each_that_ends {A} f test rule so_far whole xs i le known =
    sym (no_more so_far)
    ∙ sym (ap (λ (ys : List A). more_found so_far (each_that test rule (map f ys))) (drop_of_length-le xs le)) ∙ known
