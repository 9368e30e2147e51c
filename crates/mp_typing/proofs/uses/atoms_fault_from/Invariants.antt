use Rattle.mp_typing.proofs.Basics.{◌≡◌, drop, flat_map, leftmost, arity_of, atom_faults}
use Rattle.mp_typing.proofs.uses.atoms_fault_from.Given as goal

abbrev pub invariant-loop-atom : goal.invariant-loop-atom
invariant-loop-atom l = record {
  found : leftmost l.first (flat_map (atom_faults l.scope.file l.scope.params.now l.scope.declared.now) (drop l.atom-index l.atoms))
      ≡ leftmost l.fn.least (flat_map (atom_faults l.fn.scope.file l.fn.scope.params.now l.fn.scope.declared.now) l.fn.atoms);
  known : l.number ≡ arity_of l.declared.domain.predicates l.name;
}
