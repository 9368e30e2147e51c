-- What the functions that read find in a tree: what it says, or the first of all that is wrong with it. No public clause
-- cites this module.
use Rattle.std.specs.Prelude.{List, [], ◌∷◌, ◌++◌, Result, Ok, Err, if◌then◌else◌}
use Rattle.mp_forms.specs.declared.fault.Fault.{Fault}
use Rattle.mp_forms.specs.Faults.{is_earlier}
use Rattle.mp_forms.specs.Reading.{Reading, Says, Wrong}

-- the earlier of two faults, the first where none is earlier
unfoldable pub earlier_of : Fault → Fault → Fault
earlier_of known fault = if is_earlier fault known then fault else known

-- the earliest of a fault and others
abbrev pub earliest_of : Fault → List Fault → Fault
earliest_of fault [] = fault
earliest_of fault (f ∷ fs) = earliest_of (earlier_of fault f) fs

abbrev pub found_in : {X : Type 0} → Reading X → Result X Fault
found_in (Says x) = Ok x
found_in (Wrong fault others) = Err (earliest_of fault others)

-- two findings together
abbrev pub both_found : {X Y Z : Type 0} → (X → Y → Z) → Result X Fault → Result Y Fault → Result Z Fault
both_found join (Ok x) (Ok y) = Ok (join x y)
both_found join (Ok x) (Err g) = Err g
both_found join (Err f) (Ok y) = Err f
both_found join (Err f) (Err g) = Err (earlier_of f g)

abbrev pub said_found : {X Y : Type 0} → (X → Y) → Result X Fault → Result Y Fault
said_found of (Ok x) = Ok (of x)
said_found of (Err f) = Err f

-- the items of one finding and then those of another
abbrev pub more_found : {X : Type 0} → Result (List X) Fault → Result (List X) Fault → Result (List X) Fault
more_found a b = both_found (λ xs ys. xs ++ ys) a b

-- the second of two findings, where nothing is wrong with the first
abbrev pub second_found : {X Y : Type 0} → Result X Fault → Result Y Fault → Result Y Fault
second_found a b = both_found (λ x y. y) a b

abbrev pub nothing_found : Result (Unit {0}) Fault
nothing_found = Ok tt
