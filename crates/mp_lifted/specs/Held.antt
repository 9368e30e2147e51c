-- How the facts that are true at the start are kept: the predicate and the objects of each, in a set.
use Rattle.std.specs.Prelude.{ℕ, ◌≡◌, Bool, not, if◌then◌else◌, List}
use Rattle.std.specs.Borrow.{Bor}
use Rattle.std.specs.List.{list_any}
use Rattle.mp_lifted.specs.declared.lifted.GroundAtom.{GroundAtom}
use Rattle.mp_lifted.specs.declared.lifted.LiftedFactor.{LiftedFactor}
use Rattle.mp_lifted.specs.Atoms.{same_atom}
use Rattle.mp_lifted.specs.Start.{is_private, is_true_at_start}

-- the fact that a key stands for
abbrev pub fact_of : ℕ × Bor (List ℕ) → GroundAtom
fact_of key = record { symbol = key.0; args = key.1.now }

-- whether a fact is among those that are kept
abbrev pub is_held : List (ℕ × Bor (List ℕ)) → GroundAtom → Bool
is_held keys a = list_any (λ key. same_atom a (fact_of key)) keys

-- private where private ones are asked for, and public else
abbrev pub has_kind : LiftedFactor → Bool → GroundAtom → Bool
has_kind factor private a = if private then is_private factor a else not (is_private factor a)

-- what is kept is what is true at the start
abbrev pub HoldsStart : List (ℕ × Bor (List ℕ)) → LiftedFactor → Type 0
HoldsStart keys factor = (a : GroundAtom) → is_held keys a ≡ is_true_at_start factor a
