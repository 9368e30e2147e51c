-- What a source of files tells of itself, where it does.
use Rattle.std.specs.Prelude.{◌≡◌, ◌≤◌, ◌⊎◌, ℕ, List, take, drop, Option, Some, None, ⊤, IfSome, IsSomeAnd}

-- the files that a source holds: the bytes under each name, none under a name that it does not hold
abbrev pub Files : Type 0
Files = List ℕ → Option (List ℕ)

-- the source tells what it holds, and holds nothing under this name
abbrev pub Lacks : Option Files → List ℕ → Type 0
Lacks held name = IsSomeAnd held (λ files. files name ≡ None)

-- The file of this name was begun: where the source tells what it holds, just its bytes are left, under its
-- name.
abbrev pub Begins : Option Files → List ℕ → Option (List ℕ) → Option (List ℕ) → Type 0
Begins None name left begun = ⊤
Begins (Some files) name left begun = (left ≡ files name) × (begun ≡ Some name)

-- where the source tells what it holds, its last fault came at this name
abbrev pub FaultAt : Option Files → Option (List ℕ) → Option (List ℕ) → Type 0
FaultAt None fault_at name = ⊤
FaultAt (Some files) fault_at name = fault_at ≡ name

-- where the source tells what it holds, it holds this name, and these are the first n bytes of the file, or
-- all of it where it is no longer
abbrev pub IsFrontOf : Option Files → List ℕ → ℕ → List ℕ → Type 0
IsFrontOf held name n bytes = IfSome held (λ files. IsSomeAnd (files name) (λ whole. bytes ≡ take n whole))

-- at most n of the known bytes that were left are gone, the first ones
abbrev pub LosesAtMost : Option (List ℕ) → Option (List ℕ) → ℕ → Type 0
LosesAtMost None new n = ⊤
LosesAtMost (Some xs) None n = ⊥
LosesAtMost (Some xs) (Some ys) n = (k : ℕ) × (k ≤ n) × (ys ≡ drop k xs)

-- Where the source tells what it holds, it holds this name, and at most n bytes of the file are gone since it was
-- begun; or it was not begun, and no bytes are gone.
abbrev pub TakesAtMost : Option Files → List ℕ → ℕ → Option (List ℕ) → Option (List ℕ) → Type 0
TakesAtMost held name n old new =
    (new ≡ old) ⊎ IfSome held (λ files. IsSomeAnd (files name) (λ whole. LosesAtMost (Some whole) new n))
