use Rattle.std.proofs.Common.{map, take}
use Rattle.mp_stamps.specs.Turns.{IsTurn}
use Rattle.mp_stamps.proofs.merging.next_turn.Given as goal

-- the turn among the first lists
abbrev pub invariant-loop-at : goal.invariant-loop-at
invariant-loop-at l = IsTurn (map (λ rest. rest.now) (take l.at l.rests)) l.turn
