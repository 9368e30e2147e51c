-- The values of functions, in a map from a function and its objects.
use Rattle.std.specs.Prelude.{ℕ, ◌≡◌, List}
use Rattle.std.specs.Borrow.{Bor}
use Rattle.std.specs.Map.{lookup}
use Rattle.mp_lifted.specs.declared.lifted.GroundAtom.{GroundAtom}
use Rattle.mp_lifted.specs.declared.lifted.GroundValue.{GroundValue}
use Rattle.mp_lifted.specs.Atoms.{same_atom}
use Rattle.mp_lifted.specs.Held.{fact_of}
use Rattle.mp_instances.specs.Costs.{value_of}

-- each function with a value is kept with the first one, and no other
abbrev pub HasValues : List ((ℕ × Bor (List ℕ)) × ℕ) → List GroundValue → Type 0
HasValues entries values =
    (a : GroundAtom) → lookup (λ key. same_atom a (fact_of key)) entries ≡ value_of values a
