use Rattle.mp_ground_facts.proofs.Basics.{◌≡◌, map, drop, fold, fact_of}
use Rattle.mp_ground_facts.proofs.handing.hand_facts.Given as goal

-- what is left is handed on behind what was
abbrev pub invariant-loop-atom : goal.invariant-loop-atom
invariant-loop-atom g l =
    fold g.T.TakesFacts.after l.taker (map (fact_of l.factor l.is_complement) (drop l.atom-index l.atoms))
    ≡ fold g.T.TakesFacts.after l.initial.taker (map (fact_of l.factor l.is_complement) l.atoms)
