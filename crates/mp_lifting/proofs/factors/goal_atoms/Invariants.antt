use Rattle.mp_lifting.proofs.Basics.{◌≡◌, map, take, filter, Literal, ground_atom}
use Rattle.mp_lifting.proofs.Parts.{has_sign}
use Rattle.mp_lifting.proofs.factors.goal_atoms.Given as goal

abbrev pub invariant-loop-goal : goal.invariant-loop-goal
invariant-loop-goal l =
    l.made ≡ map (λ (t : Literal). ground_atom l.vocabulary t.atom) (filter (has_sign l.positive) (take l.goal-index l.goals))
