-- What stands at most once, as it is looked for and read.
use Rattle.mp_factor.proofs.Basics.{◌≡◌, Bool, List, [], ◌∷◌, Option, Some, None, Result, refl, arith, filter, find, Place, Fault, Reading, at_most, of_first, once, misshapen, found_in, second_found}
use Rattle.std.specs.Prelude.{option_map}
use Rattle.mp_factor.proofs.FoundLemmas.{found_both}

-- what is read of the first, or of none
abbrev read_of : {A X : Type 0} → (A → Reading X) → Reading X → Option A → Result X Fault
read_of rule missing None = found_in missing
read_of rule missing (Some a) = found_in (rule a)

first_read : {A X : Type 0} → (test : A → Bool) (rule : A → Reading X) (missing : Reading X) (xs : List A)
    → found_in (of_first rule missing (filter test xs)) ≡ read_of rule missing (find test xs)
first_read test rule missing [] = refl
first_read test rule missing (x ∷ xs) = grind (arith, first_read test rule missing xs)

-- there is one
pub once_there : {A B X : Type 0} → (f : A → B) (test : B → Bool) (place : B → Place) (rule : B → Reading X) (missing : Reading X) (xs : List B)
    → (o : Option A) (a : A) (single : Result (Unit {0}) Fault) (read out : Result X Fault)
    → single ≡ found_in (at_most 1 test (λ b. misshapen (place b)) xs) → option_map f o ≡ find test xs → o ≡ Some a → read ≡ found_in (rule (f a))
    → out ≡ second_found single read → out ≡ found_in (once test place rule missing xs)
unfolding once
once_there f test place rule missing xs o a single read out is_single is_first some is_read is = grind (arith, first_read, found_both)

-- there is none
pub once_missing : {A B X : Type 0} → (f : A → B) (test : B → Bool) (place : B → Place) (rule : B → Reading X) (missing : Reading X) (xs : List B)
    → (o : Option A) (single : Result (Unit {0}) Fault) (read out : Result X Fault)
    → single ≡ found_in (at_most 1 test (λ b. misshapen (place b)) xs) → option_map f o ≡ find test xs → o ≡ None → read ≡ found_in missing
    → out ≡ second_found single read → out ≡ found_in (once test place rule missing xs)
unfolding once
once_missing f test place rule missing xs o single read out is_single is_first none is_read is = grind (arith, first_read, found_both)
