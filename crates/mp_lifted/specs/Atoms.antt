-- Atoms of actions where objects stand for the parameters.
use Rattle.std.specs.Prelude.{ℕ, ◌==◌, ◌&&◌, Bool, List, map, nat_eq, slice_index_or}
use Rattle.std.specs.Cmp.Lexicographic.{pointwise}
use Rattle.std.specs.List.{list_any}
use Rattle.mp_lifted.specs.declared.lifted.LiftedTerm.{LiftedTerm}
use Rattle.mp_lifted.specs.declared.lifted.LiftedTerm.TheVariants.{Parameter, Object}
use Rattle.mp_lifted.specs.declared.lifted.LiftedAtom.{LiftedAtom}
use Rattle.mp_lifted.specs.declared.lifted.GroundAtom.{GroundAtom}

-- the object that a term is, where these objects stand for the parameters, the first one's first
abbrev pub object_at : List ℕ → LiftedTerm → ℕ
object_at objects (Parameter place) = slice_index_or objects place 0
object_at objects (Object number) = number

abbrev pub atom_at : List ℕ → LiftedAtom → GroundAtom
atom_at objects atom = record { symbol = atom.symbol; args = map (object_at objects) atom.terms }

abbrev pub atoms_at : List ℕ → List LiftedAtom → List GroundAtom
atoms_at objects atoms = map (atom_at objects) atoms

-- atoms are the same where their predicates, or functions, and their objects are
abbrev pub same_atom : GroundAtom → GroundAtom → Bool
same_atom a b = a.symbol == b.symbol && pointwise nat_eq a.args b.args

abbrev pub is_among : GroundAtom → List GroundAtom → Bool
is_among a atoms = list_any (λ b. same_atom a b) atoms
