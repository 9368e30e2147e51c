use Rattle.mp_lifting.proofs.Basics.{◌≡◌, Bor, map, take, Text, is_listed}
use Rattle.mp_lifting.proofs.factors.flags_in.Given as goal

abbrev pub invariant-loop-name : goal.invariant-loop-name
invariant-loop-name l = l.flags ≡ map (λ (n : Bor Text). is_listed n.now l.table) (take l.name-index l.name-items)
