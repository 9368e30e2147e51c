use Rattle.mp_ground_facts.proofs.Basics.{◌≡◌, map, drop, fold, atoms_at, complement, with_complements}
use Rattle.mp_ground_facts.proofs.handing.hand_complements.Given as goal

-- what is left is handed on behind what was
abbrev pub invariant-loop-atom : goal.invariant-loop-atom
invariant-loop-atom g l =
    fold g.T.TakesFacts.after l.taker (map (complement l.binding.factor.now) (with_complements l.binding.factor.now (atoms_at l.binding.objects.now l.others) (atoms_at l.binding.objects.now (drop l.atom-index l.atoms))))
    ≡ fold g.T.TakesFacts.after l.initial.taker (map (complement l.binding.factor.now) (with_complements l.binding.factor.now (atoms_at l.binding.objects.now l.others) (atoms_at l.binding.objects.now l.atoms)))
