-- Which facts are private, and which are true at the start, as an agent knows it.
use Rattle.std.specs.Prelude.{ℕ, Bool, false, ◌||◌, List, slice_index_or, if◌then◌else◌}
use Rattle.std.specs.List.{list_any}
use Rattle.mp_lifted.specs.declared.lifted.GroundAtom.{GroundAtom}
use Rattle.mp_lifted.specs.declared.lifted.LiftedFactor.{LiftedFactor}
use Rattle.mp_lifted.specs.Atoms.{is_among}

-- whether something is so of the predicate or object with a number
abbrev pub is_so : List Bool → ℕ → Bool
is_so flags number = slice_index_or flags number false

-- a fact is private where its predicate or one of its objects is
abbrev pub is_private : LiftedFactor → GroundAtom → Bool
is_private factor a =
    is_so factor.private_predicates a.symbol || list_any (is_so factor.private_objects) a.args

-- A private fact is true at the start where its own factor says so, and a public one where some agent shows it.
abbrev pub is_true_at_start : LiftedFactor → GroundAtom → Bool
is_true_at_start factor a = is_among a (if is_private factor a then factor.init else factor.known)
