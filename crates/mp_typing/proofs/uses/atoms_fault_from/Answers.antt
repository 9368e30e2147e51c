use Rattle.mp_typing.proofs.Basics.{atom_faults, goes_on, is_earlier}
use Rattle.mp_typing.proofs.uses.atoms_fault_from.Goals as goal

pub loop-atom-preserved : goal.loop-atom-preserved
loop-atom-preserved c =
    let scope = c.args.scope.now in
    record {
      found =
          goes_on is_earlier (atom_faults scope.file scope.params.now scope.declared.now) _ _ _ c.args.atoms.now c.loop-atom.atom-index c.atom-item.result
          c.loop-atom-test.true c.atom-item.is c.in_ok-first.ensures c.loop-atom.invariant.found;
      known = c.predicate_beside-number.ensures;
    }
