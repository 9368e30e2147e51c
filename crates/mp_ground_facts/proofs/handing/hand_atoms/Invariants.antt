use Rattle.mp_ground_facts.proofs.Basics.{◌≡◌, map, drop, fold, atoms_at, fact_of}
use Rattle.mp_ground_facts.proofs.handing.hand_atoms.Given as goal

-- what is left is handed on behind what was
abbrev pub invariant-loop-atom : goal.invariant-loop-atom
invariant-loop-atom g l =
    fold g.T.TakesFacts.after l.taker (map (fact_of l.binding.factor.now l.is_complement) (atoms_at l.binding.objects.now (drop l.atom-index l.atoms)))
    ≡ fold g.T.TakesFacts.after l.initial.taker (map (fact_of l.binding.factor.now l.is_complement) (atoms_at l.binding.objects.now l.atoms))
