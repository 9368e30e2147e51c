use Rattle.std.proofs.Common.{◌≡◌, ◌++◌, drop}
use Rattle.std.specs.List.{flat_map}
use Rattle.mp_forms.specs.Limits.{names_of_atom}
use Rattle.mp_checker.proofs.words.add_atoms.Given as goal

abbrev pub invariant-loop-atom : goal.invariant-loop-atom
invariant-loop-atom l = l.names ++ flat_map names_of_atom (drop l.atom-index l.atoms) ≡ l.fn.names ++ flat_map names_of_atom l.atoms
