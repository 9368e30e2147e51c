-- What a tree is read as: what it says, or all that is wrong with it.
use Rattle.std.specs.Prelude.{ℕ, Bool, List, [], ◌∷◌, ◌++◌, drop, if◌then◌else◌}
use Rattle.std.specs.List.{filter}
use Rattle.mp_sexp.specs.declared.tree.Place.{Place}
use Rattle.mp_sexp.specs.Node.{Node}
use Rattle.mp_forms.specs.declared.fault.Fault.{Fault}
use Rattle.mp_forms.specs.declared.fault.FaultKind.TheVariants.{Shape, Cost}
use Rattle.mp_forms.specs.Faults.{fault_at, unsupported_fault}
use Rattle.mp_forms.specs.Parts.{is_word, place_of}

-- what is said, or a fault and all others
pub data Reading (X : Type 0) : Type 0 where
  Says : X → Reading X
  Wrong : Fault → List Fault → Reading X

-- all that is wrong
abbrev pub faults_in : {X : Type 0} → Reading X → List Fault
faults_in (Says x) = []
faults_in (Wrong fault others) = fault ∷ others

-- ---- one thing is wrong

-- a word or list stands where none of its kind may, or lacks something
abbrev pub misshapen : {X : Type 0} → Place → Reading X
misshapen place = Wrong (fault_at place Shape) []

-- this word begins something that is not supported
abbrev pub unsupported : {X : Type 0} → Node → Reading X
unsupported node = Wrong (unsupported_fault node) []

-- this is no cost that is allowed
abbrev pub costly : {X : Type 0} → Place → Reading X
costly place = Wrong (fault_at place Cost) []

-- ---- several readings

-- what is said of what is read
unfoldable pub said : {X Y : Type 0} → (X → Y) → Reading X → Reading Y
said of (Says x) = Says (of x)
said of (Wrong fault others) = Wrong fault others

-- two readings together, and all that is wrong with either
unfoldable pub both : {X Y Z : Type 0} → (X → Y → Z) → Reading X → Reading Y → Reading Z
both join (Says x) (Says y) = Says (join x y)
both join (Says x) (Wrong fault others) = Wrong fault others
both join (Wrong fault others) reading = Wrong fault (others ++ faults_in reading)

-- the second of two readings, where nothing is wrong with the first
abbrev pub besides : {X Y : Type 0} → Reading X → Reading Y → Reading Y
besides first second = both (λ x y. y) first second

-- a function's next argument is read
abbrev pub ◌with◌ : {X Y : Type 0} → Reading (X → Y) → Reading X → Reading Y
◌with◌ function argument = both (λ f x. f x) function argument

infixl 20 ◌with◌
-- each of these, by one rule
unfoldable pub each : {A X : Type 0} → (A → Reading X) → List A → Reading (List X)
each rule [] = Says []
each rule (a ∷ as') = both (λ x xs. x ∷ xs) (rule a) (each rule as')

-- ---- what stands at the ends of a list

-- this word is wanted
unfoldable pub keyword : List ℕ → Node → Reading (Unit {0})
keyword w node = if is_word w node then Says tt else misshapen (place_of node)

-- nothing more is wanted
unfoldable pub nothing_more : List Node → Reading (Unit {0})
nothing_more [] = Says tt
nothing_more (n ∷ ns) = misshapen (place_of n)

-- a member is wanted; where there is none, it is missing in the list at this place
unfoldable pub wanted : {X : Type 0} → (Node → Reading X) → Place → List Node → Reading X
wanted rule whole [] = misshapen whole
wanted rule whole (n ∷ ns) = rule n

-- a member is wanted, and nothing more
unfoldable pub alone : {X : Type 0} → (Node → Reading X) → Place → List Node → Reading X
alone rule whole [] = misshapen whole
alone rule whole (n ∷ ns) = besides (nothing_more ns) (rule n)

-- ---- what says nothing, but may be wrong

-- each of these by a rule that says nothing
unfoldable pub all_right : {A : Type 0} → (A → Reading (Unit {0})) → List A → Reading (Unit {0})
all_right rule [] = Says tt
all_right rule (a ∷ as') = besides (rule a) (all_right rule as')

-- of those that pass the test at most so many: each behind them is wrong
unfoldable pub at_most : {A : Type 0} → ℕ → (A → Bool) → (A → Reading (Unit {0})) → List A → Reading (Unit {0})
at_most most test surplus items = all_right surplus (drop most (filter test items))

-- ---- what stands at most once

abbrev pub of_first : {A X : Type 0} → (A → Reading X) → Reading X → List A → Reading X
of_first rule missing [] = missing
of_first rule missing (a ∷ as') = rule a

-- the first of those that pass the test, by its rule, or what is read where there is none; each further one has no place
unfoldable pub once : {A X : Type 0} → (A → Bool) → (A → Place) → (A → Reading X) → Reading X → List A → Reading X
once test place rule missing items =
    besides (at_most 1 test (λ a. misshapen (place a)) items) (of_first rule missing (filter test items))
